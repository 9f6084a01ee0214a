-- Two jobs with one setting, the same limits and the same prices of choices have the same report. Assumes nothing.
use Rattle.std.proofs.Common.{◌≡◌, ℕ, suc, List, [], ◌∷◌, ◌++◌, length, codes, decimal, flat_map, Some, None, Option, refl, sym, ap, ◌∙◌, ap₂}
use Rattle.std.specs.Fmt.{signed_decimal}
use Rattle.rules.specs.declared.records.CallRecord.{CallRecord}
use Rattle.rules.specs.declared.sheets.Sheet.{Sheet}
use Rattle.rules.specs.Calls.{Answer, Call, Does, Finding, Job, close, closed, closes, filled, finding_at, least, nothing, refuses, reply, running, runs, unfinished, verdict}
use Rattle.rules.specs.Catalogues.{Meaning, SoundMeaning}
use Rattle.rules.specs.Choices.{BestKeeps, Choice, Told, TrueAt, price, says_full, says_least, says_none, says_unfinished}
use Rattle.rules.specs.Grounds.{Part, Setting}
use Rattle.rules.specs.Histories.{called, opened}
use Rattle.rules.specs.KeptJobs.{faultless, opened_with}
use Rattle.rules.specs.Openings.{Faultless, opening}
use Rattle.rules.specs.Promises.{Right, by_verdict}
use Rattle.rules.specs.Records.{answer_number, answer_to, asked, closed_job, job_after}
use Rattle.rules.specs.Search.{Named, Outcome, State}
use Rattle.rules.specs.Settings.{Seen, by_place, closing_lines, seen, setting, told, versions_to}
use Rattle.rules.specs.Sheets.{Limits, last_row, limit_of, order_of}
use Rattle.rules.proofs.OpeningTests.{faultless_none}
use Rattle.rules.proofs.Replies.{call_law}
use Rattle.rules.proofs.Rights.{right_throughout}
use Rattle.report.specs.Reports.{call_line, calls_text, choice_text, closing_line, closing_text, job_line, report_text, seen_text, told_ground, told_text}
use Rattle.report.proofs.ReportLengths.{Past, answer_by, job_by}

-- one sheet and catalogue beside another: the setting, the limits, and what the choices of the other cost
pub record Alike (a b : Meaning) (s t : Sheet) : Type 0 where
  pub places : s.places ≡ t.places
  pub last_row : last_row s ≡ last_row t
  pub order : order_of s ≡ order_of t
  pub limits : limit_of s ≡ limit_of t
  pub settings : setting a s ≡ setting b t
  pub prices : (c : List ℕ) → Choice b t c → price a s c ≡ price b t c
  pub opens : opening a s ≡ None

module _ (a b : Meaning) (s t : Sheet) (alike : Alike a b s t) (w : SoundMeaning b) (f : Faultless b t) where
  abbrev S : Setting
  S = setting b t

  by_place_same : (c : Part) → by_place s c ≡ by_place t c
  by_place_same c = ap₂ (λ order n. versions_to order c n) alike.order alike.places

  told_same : (x : Finding) → told s x ≡ told t x
  told_same (least c g) = ap (λ d. says_least d (closing_lines g)) (by_place_same c)
  told_same (nothing g) = refl
  told_same (filled None) = refl
  told_same (filled (Some c)) = ap (λ d. says_full (Some d)) (by_place_same c)
  told_same (unfinished None) = refl
  told_same (unfinished (Some c)) = ap (λ d. says_unfinished (Some d)) (by_place_same c)

  choice_same : (c : List ℕ) → Choice b t c → choice_text a s (Some c) ≡ choice_text b t (Some c)
  choice_same c h = ap (λ z. codes " " ++ signed_decimal z ++ flat_map (λ v. codes " " ++ decimal v) c) (alike.prices c h)

  best_same : (L : Limits) (best : Option (List ℕ)) → BestKeeps b t L best → choice_text a s best ≡ choice_text b t best
  best_same L None h = refl
  best_same L (Some c) h = choice_same c h.0

  text_same : (L : Limits) (x : Told) → TrueAt b t L x → told_text a s x ≡ told_text b t x
  text_same L (says_least c g) h = ap (λ xs. codes "LEAST" ++ xs) (choice_same c h.0.0)
  text_same L (says_none g) h = refl
  text_same L (says_full best) h = ap (λ xs. codes "FULL" ++ xs) (best_same L best h)
  text_same L (says_unfinished best) h = ap (λ xs. codes "UNFINISHED" ++ xs) (best_same L best h)

  seen_same : (L : Limits) (v : Seen) → TrueAt b t L v.says → seen_text a s v ≡ seen_text b t v
  seen_same L v h =
      ap (λ xs. xs ++ codes " STEPS " ++ decimal v.steps ++ codes " GROUNDS " ++ decimal v.held ++ codes "\n" ++ flat_map closing_line (told_ground v.says)) (text_same L v.says h)

  verdict_same : (L : Limits) (σ : State) (o : Outcome) → Past b w t f (running L σ) → Named S L σ o → seen_text a s (seen s (verdict σ o)) ≡ seen_text b t (seen t (verdict σ o))
  verdict_same L σ o h n =
      let r : Right b t (called h.1 (closes o n)) = (right_throughout b w t f (called h.1 (closes o n))).1 in
      ap (λ x. seen_text a s (record { says = x; steps = σ.steps; held = length σ.learned })) (told_same (finding_at σ.best o))
      ∙ seen_same L (seen t (verdict σ o)) (r.saying _ by_verdict)

  closing_same : {j : Job} {c : Call} {x : Answer} {k : Job} → Past b w t f j → Does S j c x k → closing_text a s (faultless j) (faultless k) ≡ closing_text b t (faultless j) (faultless k)
  closing_same {j = closed L gs v} h d = refl
  closing_same {j = running L σ} h (refuses r) = refl
  closing_same {j = running L σ} h (runs p q) = refl
  closing_same {j = running L σ} h (closes o n) = verdict_same L σ o h n

  closed_same : (j : Job) → Past b w t f j → closing_text a s (faultless j) (closed_job S (faultless j)) ≡ closing_text b t (faultless j) (closed_job S (faultless j))
  closed_same (closed L gs v) h = refl
  closed_same (running L σ) h = let d = (call_law S (running L σ) close).0 in closing_same h d

  unmoved_same : (j : Job) → closing_text a s (faultless j) (faultless j) ≡ closing_text b t (faultless j) (faultless j)
  unmoved_same (closed L gs v) = refl
  unmoved_same (running L σ) = refl

  abbrev Same : ℕ → List CallRecord → Job → Type 0
  Same k rs j = Past b w t f j → calls_text a s (faultless j) k rs ≡ calls_text b t (faultless j) k rs

  first_same : (j : Job) (k : ℕ) (rs : List CallRecord) (o : Option Call) → ((i : Job) → Same (suc k) rs i) → Past b w t f j →
      call_line k (answer_by b w t f j o) ++ closing_text a s (faultless j) (job_by b w t f j o) ++ calls_text a s (job_by b w t f j o) (suc k) rs
      ≡ call_line k (answer_by b w t f j o) ++ closing_text b t (faultless j) (job_by b w t f j o) ++ calls_text b t (job_by b w t f j o) (suc k) rs
  first_same j k rs None rec h = ap₂ (λ x y. call_line k (answer_by b w t f j None) ++ x ++ y) (unmoved_same j) (rec j h)
  first_same j k rs (Some c) rec h =
      let r = reply S j c in
      let d = (call_law S j c).0 in
      ap₂ (λ x y. call_line k (answer_number r.answer) ++ x ++ y) (closing_same h d) (rec r.job (_, called h.1 d))

  calls_same : (k : ℕ) (rs : List CallRecord) (j : Job) → Same k rs j
  calls_same k [] j h = ap (λ T. closing_text a s (faultless j) (closed_job T (faultless j))) alike.settings ∙ closed_same j h
  calls_same k (r ∷ rs) j h =
      ap (λ T. call_line k (answer_to T (faultless j) r.request) ++ closing_text a s (faultless j) (job_after T (faultless j) r.request) ++ calls_text a s (job_after T (faultless j) r.request) (suc k) rs) alike.settings
      ∙ first_same j k rs (asked r.request) (calls_same (suc k) rs) h

  job_line_same : job_line s ≡ job_line t
  job_line_same = ap₂ (λ n m. codes "JOB " ++ decimal n ++ codes " " ++ decimal m ++ codes "\n") alike.places alike.last_row

  pub report_same : (rs : List CallRecord) → report_text a s rs ≡ report_text b t rs
  report_same rs =
      ap (λ o. job_line s ++ calls_text a s (opened_with s o) 1 rs) alike.opens
      ∙ ap (λ L. job_line s ++ calls_text a s (faultless (closed L [] None)) 1 rs) alike.limits
      ∙ ap₂ ◌++◌ job_line_same (calls_same 1 rs (closed (limit_of t) [] None) ([], opened))
      ∙ sym (ap (λ o. job_line t ++ calls_text b t (opened_with t o) 1 rs) (faultless_none b t f))
