-- What is worked out for a list of call records is what the rules say, and right. Assumes nothing.
use Rattle.std.proofs.Common.{◌≡◌, ℕ, List, [], ◌∷◌, ◌++◌, map, reverse, Some, None, Option, sym, refl, ap, ◌∙◌, subst, ap₂, append_assoc, arith}
use mathlib.Core.List.{reverse-cons}
use Rattle.std.specs.List.{AllByRecursion}
use Rattle.std.proofs.lemmas.List.{append-nil, reverse-append}
use Rattle.rules.specs.declared.records.CallRecord.{CallRecord}
use Rattle.rules.specs.declared.records.Request.{Request}
use Rattle.rules.specs.declared.refusals.Fault.{Fault}
use Rattle.rules.specs.declared.refusals.Refusal.TheVariants.{NoCall}
use Rattle.rules.specs.declared.sheets.Sheet.{Sheet}
use Rattle.rules.specs.Catalogues.{Meaning, SoundMeaning}
use Rattle.rules.specs.Sheets.{Limits, limit_of}
use Rattle.rules.specs.Refusals.{refusal_number}
use Rattle.rules.specs.Openings.{Faultless, opening}
use Rattle.rules.specs.Grounds.{Ground, Setting}
use Rattle.rules.specs.Calls.{Answer, Call, Does, Job, Verdict, close, closed, reply, running, taken}
use Rattle.rules.specs.Histories.{Entry, History, called, opened, play, unplayed}
use Rattle.rules.specs.Settings.{setting}
use Rattle.rules.specs.KeptJobs.{CameBy, KeptJob, faultless, faulty, opened_with}
use Rattle.rules.specs.Records.{CarriedOut, ComesOf, ComesTo, IsClosed, Lawful, all_answered, answer_number, answered, asked, called_by, closed_job, closed_last, done, job_after, job_after_all, passed_over, requests}
use Rattle.rules.specs.Theorems.{RecordLaw}
use Rattle.rules.proofs.Replies.{call_law, history_law}
use Rattle.rules.proofs.Asked.{Fits, asked_fits, asked_request, asked_none}
use Rattle.rules.proofs.Rights.{right_throughout}
use Rattle.rules.proofs.OpeningTests.{none_faultless}

-- the records with their answers, and the job after them
record Worked : Type 0 where
  records : List CallRecord
  job : Job

abbrev answered_first : Request → ℕ → Worked → Worked
answered_first q n w = record { records = record { request = q; answer = n } ∷ w.records; job = w.job }

abbrev closed_after : Setting → Job → Job
closed_after S (closed L gs v) = closed L gs v
closed_after S (running L σ) = (reply S (running L σ) close).job

-- what requests come to on a job that was opened without fault
abbrev work_on : Setting → Job → List Request → Worked
work_on S j [] = record { records = []; job = closed_after S j }
work_on S j (q ∷ qs) =
    elim (asked q) [
      | None ↦ answered_first q (refusal_number NoCall) (work_on S j qs)
      | Some c ↦ answered_first q (answer_number (reply S j c).answer) (work_on S (reply S j c).job qs)
    ]

abbrev entry : Call → Answer → Entry
entry c a = record { call = c; answer = a }

module _ (S : Setting) where
  -- calls with their answers, the earliest first, from one job to another
  data Leads : Job → List Entry → Job → Type 0 where
    here : {j : Job} → Leads j [] j
    then : {j i k : Job} {c : Call} {a : Answer} {es : List Entry} → Does S j c a i → Leads i es k → Leads j (entry c a ∷ es) k

  -- calls that lead on from a job go on with its history
  onwards : (L : Limits) {fs : List Entry} {j k : Job} → Leads j fs k → (es : List Entry) → History S L es j → (gs : List Entry) × (History S L (gs ++ es) k) × (reverse gs ≡ fs)
  onwards L here es h = ([], h, refl)
  onwards L {k = k} (then {c = c} {a = a} {es = fs} d l) es h =
      let r = onwards L l (entry c a ∷ es) (called h d) in
      (r.0 ++ (entry c a ∷ []), subst (λ xs. History S L xs k) (sym (append_assoc r.0 (entry c a ∷ []) es)) r.1, reverse-append r.0 (entry c a ∷ []) ∙ ap (λ xs. entry c a ∷ xs) r.2)

  -- a closed job does not take a close
  no_close_taken : (L : Limits) (gs : List Ground) (v : Option Verdict) (k : Job) → Does S (closed L gs v) close taken k → ⊥
  unfolding reply
  no_close_taken L gs v k d = let e = ((call_law S (closed L gs v) close).1 taken k d).0 in let z : ◌≡◌ {A = ℕ} 0 14 = ap answer_number e in omega (arith, z)

  -- what is worked out leads from a job to the one after the records
  record Found (j : Job) (rs : List CallRecord) (k : Job) : Type 0 where
    pub calls : List Entry
    pub leads : Leads j calls k
    pub just_these : ComesOf rs calls
    pub is_closed : IsClosed k

  finish : (j : Job) → Found j [] (closed_after S j)
  unfolding reply
  finish (closed L gs v) = record { calls = []; leads = here; just_these = done; is_closed = tt }
  finish (running L σ) = record { calls = entry close taken ∷ []; leads = then (call_law S (running L σ) close).0 here; just_these = closed_last; is_closed = tt }

  -- what comes of a request, by the call that it is for
  from_asked : Job → Request → List Request → Option Call → Worked
  from_asked j q qs o = elim o [
    | None ↦ answered_first q (refusal_number NoCall) (work_on S j qs)
    | Some c ↦ answered_first q (answer_number (reply S j c).answer) (work_on S (reply S j c).job qs)
  ]

  found_first : (j : Job) (q : Request) (qs : List Request) (o : Option Call) → asked q ≡ o → ((i : Job) → Found i (work_on S i qs).records (work_on S i qs).job) → Found j (from_asked j q qs o).records (from_asked j q qs o).job
  unfolding from_asked
  found_first j q qs None e rec =
      let f = rec j in
      record { calls = f.calls; leads = f.leads; just_these = passed_over (subst (Fits q) e (asked_fits q)) refl f.just_these; is_closed = f.is_closed }
  found_first j q qs (Some c) e rec =
      let a = (reply S j c).answer in
      let f = rec (reply S j c).job in
      record { calls = entry c a ∷ f.calls; leads = then (call_law S j c).0 f.leads; just_these = called_by c a (subst (Fits q) e (asked_fits q)) refl f.just_these; is_closed = f.is_closed }

  found : (j : Job) (qs : List Request) → Found j (work_on S j qs).records (work_on S j qs).job
  unfolding from_asked
  found j [] = finish j
  found j (q ∷ qs) = found_first j q qs (asked q) refl (λ i. found i qs)

  -- and nothing else is found
  only_found : {rs : List CallRecord} {es : List Entry} → ComesOf rs es → {j k : Job} → Leads j es k → IsClosed k → record { records = rs; job = k } ≡ work_on S j (requests rs)
  unfolding from_asked reply
  only_found done {j = closed L gs v} here h = refl
  only_found done {j = running L σ} here h = absurd h
  only_found closed_last {j = closed L gs v} (then {i = i} d here) h = absurd (no_close_taken L gs v i d)
  only_found closed_last {j = running L σ} (then {i = i} d here) h = ap (λ x. record { records = []; job = x }) ((call_law S (running L σ) close).1 taken i d).1
  only_found (called_by {r = r} {rs = rs} c a e n t) {j = j} {k = k} (then {i = i} d l) h =
      let u = (call_law S j c).1 a i d in
      ap (answered_first r.request r.answer) (only_found t l h)
      ∙ ap₂ (λ x y. answered_first r.request x (work_on S y (requests rs))) (n ∙ ap answer_number u.0) u.1
      ∙ ap (from_asked j r.request (requests rs)) (sym (asked_request r.request c e))
  only_found (passed_over {r = r} {rs = rs} e n t) {j = j} l h =
      ap (answered_first r.request r.answer) (only_found t l h)
      ∙ ap (λ x. answered_first r.request x (work_on S j (requests rs))) n
      ∙ ap (from_asked j r.request (requests rs)) (sym (asked_none r.request e))

  -- the requests stay
  requests_stay : (k : KeptJob) (rs : List CallRecord) → requests (all_answered S k rs) ≡ requests rs
  requests_stay k [] = refl
  requests_stay k (r ∷ rs) = ap (λ qs. r.request ∷ qs) (requests_stay (job_after S k r.request) rs)

  -- the records one by one come to the same
  abbrev SameWork : Job → List CallRecord → Type 0
  SameWork j rs = (all_answered S (faultless j) rs ≡ (work_on S j (requests rs)).records) × (job_after_all S (faultless j) rs ≡ faultless (work_on S j (requests rs)).job)

  same_end : (j : Job) → closed_job S (faultless j) ≡ faultless (closed_after S j)
  same_end (closed L gs v) = refl
  same_end (running L σ) = refl

  same_first : (j : Job) (r : CallRecord) (rs : List CallRecord) (o : Option Call) → ((i : Job) → SameWork i rs) → (answered r (elim o [ None ↦ refusal_number NoCall | Some c ↦ answer_number (reply S j c).answer ]) ∷ all_answered S (elim o [ None ↦ faultless j | Some c ↦ faultless (reply S j c).job ]) rs ≡ (from_asked j r.request (requests rs) o).records) × (job_after_all S (elim o [ None ↦ faultless j | Some c ↦ faultless (reply S j c).job ]) rs ≡ faultless (from_asked j r.request (requests rs) o).job)
  unfolding from_asked
  same_first j r rs None rec = (ap (λ xs. answered r (refusal_number NoCall) ∷ xs) (rec j).0, (rec j).1)
  same_first j r rs (Some c) rec = (ap (λ xs. answered r (answer_number (reply S j c).answer) ∷ xs) (rec (reply S j c).job).0, (rec (reply S j c).job).1)

  same_work : (j : Job) (rs : List CallRecord) → SameWork j rs
  unfolding from_asked
  same_work j [] = (refl, same_end j)
  same_work j (r ∷ rs) = same_first j r rs (asked r.request) (λ i. same_work i rs)

  faulty_answers : (f : Fault) (rs : List CallRecord) → AllByRecursion (λ r. r.answer ≡ f.number) (all_answered S (faulty f) rs)
  faulty_answers f [] = tt
  faulty_answers f (r ∷ rs) = (refl, faulty_answers f rs)

  faulty_after : (f : Fault) (rs : List CallRecord) → job_after_all S (faulty f) rs ≡ faulty f
  faulty_after f [] = refl
  faulty_after f (r ∷ rs) = faulty_after f rs

  -- what follows calls that led to a job leads on from it
  since : (L : Limits) (before : List Entry) (i : Job) → History S L before i → (cs : List Entry) {es : List Entry} {k : Job} → History S L es k → es ≡ cs ++ before → {fs : List Entry} {l : Job} → Leads k fs l → Leads i (reverse cs ++ fs) l
  since L before i h [] {es} {k} g e {fs} {l} t =
      let as_played : record { entries = es; job = k } ≡ record { entries = before; job = i } =
      (history_law S L).is_played es k g ∙ ap (λ xs. play S (unplayed L) (reverse (map (λ x. x.call) xs))) e ∙ sym ((history_law S L).is_played before i h)
      in
      subst (λ j. Leads j fs l) (ap (λ p. p.job) as_played) t
  since L before i h (x ∷ cs) opened e t = absurd (cc)
  since L before i h (x ∷ cs) (called {es = es} {c = c} {a = a} g d) e {fs} {l} t =
      let first : entry c a ≡ x = cc in
      let rest : es ≡ cs ++ before = cc in
      subst (λ xs. Leads i xs l) (sym (ap (λ xs. xs ++ fs) (reverse-cons x cs) ∙ append_assoc (reverse cs) (x ∷ []) fs))
      (subst (λ y. Leads i (reverse cs ++ y ∷ fs) l) first (since L before i h cs g rest (then d t)))

module _ (m : Meaning) (w : SoundMeaning m) (s : Sheet) (f : Faultless m s) (before : List Entry) (j : Job) (h : History (setting m s) (limit_of s) before j) (rs : List CallRecord) where
  abbrev S : Setting
  S = setting m s

  abbrev worked : Worked
  worked = work_on S j (requests rs)

  course : ComesTo S (limit_of s) before worked.records worked.job
  course =
      let x = found S j (requests rs) in
      let r = onwards S (limit_of s) x.leads before h in
      record { calls = r.0; history = r.1; just_these = subst (ComesOf worked.records) (sym r.2) x.just_these; is_closed = x.is_closed }

  only : (os : List CallRecord) (k : Job) → requests os ≡ requests rs → ComesTo S (limit_of s) before os k → record { records = os; job = k } ≡ worked
  only os k e c =
      let l = since S (limit_of s) before j h c.calls c.history refl here in
      only_found S c.just_these (subst (λ xs. Leads S j xs k) (append-nil (reverse c.calls)) l) c.is_closed
      ∙ ap (work_on S j) e

  -- what is worked out is carried out, and what equals it too
  carried_out : (os : List CallRecord) → os ≡ worked.records → requests os ≡ requests rs → CarriedOut m s before os worked.job
  carried_out os d e =
      subst (λ xs. CarriedOut m s before xs worked.job) (sym d)
      (record {
        course = course;
        right = right_throughout m w s f course.history;
        only = λ os k same c. let u = only os k (same ∙ ap requests (sym d) ∙ e) c in (ap (λ x. x.records) u, ap (λ x. x.job) u);
      })

lawful : (m : Meaning) → SoundMeaning m → (s : Sheet) (before : List Entry) (k : KeptJob) → CameBy m s before k → (rs : List CallRecord) → Lawful m s before (all_answered (setting m s) k rs) (job_after_all (setting m s) k rs)
lawful m w s before (faulty f) h rs =
    let S : Setting = setting m s in
    subst (Lawful m s before (all_answered S (faulty f) rs)) (sym (faulty_after S f rs)) (h, faulty_answers S f rs)
lawful m w s before (faultless j) h rs =
    let S : Setting = setting m s in
    let same = same_work S j rs in
    subst (Lawful m s before (all_answered S (faultless j) rs)) (sym same.1)
    (h.0, carried_out m w s (none_faultless m s h.0) before j h.1 rs (all_answered S (faultless j) rs) same.0 (requests_stay S (faultless j) rs))

opened_came : (m : Meaning) (s : Sheet) (o : Option Fault) → opening m s ≡ o → CameBy m s [] (opened_with s o)
opened_came m s (Some f) e = e
opened_came m s None e = (e, opened)

pub record_law : RecordLaw
record_law m w s =
    record { opens = opened_came m s (opening m s) refl; carries = λ before k h rs. (lawful m w s before k h rs, requests_stay (setting m s) k rs) }
