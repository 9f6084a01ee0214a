-- What `next` and `reply` work out is what the rules say, and nothing else is. Assumes nothing.
use Rattle.std.proofs.Common.{◌≡◌, ℕ, zero, suc, ◌+◌, ◌≤◌, leb, List, [], ◌∷◌, ◌++◌, map, reverse, pos, negsuc, nat_abs, Some, sym, refl, ap, ◌∙◌, subst, arith}
use mathlib.Core.List.{reverse-cons}
use Rattle.std.proofs.lemmas.Bool.{cond-true, cond-false, cond_both, le-leb, lt-leb, leb-true, leb-false}
use Rattle.rules.specs.declared.refusals.Refusal.{Refusal}
use Rattle.rules.specs.Bounds.{greatest_limit, most_steps}
use Rattle.rules.specs.Sheets.{Limits}
use Rattle.rules.specs.Grounds.{Setting}
use Rattle.rules.specs.Search.{Named, Outcome, Runs, State, Step, ended, full, more, next, none, stepped}
use Rattle.rules.specs.Calls.{Answer, Call, Does, Job, Ran, Refuses, Reply, Run, Why, begin_search, budget_beyond, budget_used, change, changes, clear, clears, close, closed, closes, has_ended, is_full, limit_beyond, negative, no_change, no_clear, no_close, no_row, no_run, no_search, one_more, ran, refused, refuses, replied, reply, run, run_from, run_reply, running, runs, searches, taken, verdict, why}
use Rattle.rules.specs.Histories.{Entry, History, Played, called, one_call, opened, play, unplayed}
use Rattle.rules.specs.Theorems.{CallLaw, HistoryLaw, RefusalLaw, StepLaw}
use Rattle.rules.proofs.Agree.{next_named, step_next, full_next, ended_next}

named_next : (S : Setting) (L : Limits) (σ : State) (o : Outcome) → Named S L σ o → o ≡ next S L σ
named_next S L σ (ended g) h = sym (ended_next S L σ g h)
named_next S L σ full h = sym (full_next S L σ h)
named_next S L σ (stepped τ) h = sym (step_next S L σ τ h)

pub step_law : StepLaw
step_law S L σ = (next_named S L σ, named_next S L σ)

module _ (S : Setting) (L : Limits) where
  -- a run that is worked out is a run of the rules
  ends_run : (b : ℕ) (σ : State) (o : Outcome) → next S L σ ≡ o → (why o ≡ budget_used → 0 ≡ b) → Run S L b σ (why o) 0 σ
  ends_run b σ o e u =
      record { outcome = o; steps = none; within = omega arith; named = subst (Named S L σ) e (next_named S L σ); reason_is = refl; used = u }

  later : (b : ℕ) (σ τ : State) (reason : Why) (made : ℕ) (υ : State) → Step S L σ τ → Run S L b τ reason made υ → Run S L (suc b) σ reason (suc made) υ
  later b σ τ reason made υ s r =
      record { outcome = r.outcome; steps = more s r.steps; within = omega (arith, r.within); named = r.named; reason_is = r.reason_is; used = λ e. ap suc (r.used e) }

  not_used : (b : ℕ) (w : Why) → (w ≡ budget_used → ⊥) → w ≡ budget_used → 0 ≡ b
  not_used b w n e = absurd (n e)

  -- what is left of a run where the rules name an outcome
  from_outcome : ℕ → State → Outcome → Ran
  from_outcome b σ o = elim o [
    | ended g ↦ record { reason = has_ended; made = 0; state = σ }
    | full ↦ record { reason = is_full; made = 0; state = σ }
    | stepped τ ↦ one_more (run_from S L b τ)
  ]

  run_worked : (b : ℕ) (σ : State) → Run S L b σ (run_from S L b σ).reason (run_from S L b σ).made (run_from S L b σ).state
  unfolding from_outcome
  run_worked zero σ = ends_run 0 σ (next S L σ) refl (λ e. refl)
  run_worked (suc b) σ = by (next S L σ) refl (λ τ. run_worked b τ)
    where
      by : (o : Outcome) → next S L σ ≡ o → ((τ : State) → Run S L b τ (run_from S L b τ).reason (run_from S L b τ).made (run_from S L b τ).state) → Run S L (suc b) σ (from_outcome b σ o).reason (from_outcome b σ o).made (from_outcome b σ o).state
      by (ended g) e rec = ends_run (suc b) σ (ended g) e (not_used (suc b) has_ended (λ e. let z : ◌≡◌ {A = ℕ} 0 1 = cc in omega arith))
      by full e rec = ends_run (suc b) σ full e (not_used (suc b) is_full (λ e. let z : ◌≡◌ {A = ℕ} 0 1 = cc in omega arith))
      by (stepped τ) e rec = later b σ τ _ _ _ (subst (Named S L σ) e (next_named S L σ)) (rec τ)

  -- no other run is one
  stops_at : (b : ℕ) (σ : State) (o : Outcome) → (why o ≡ budget_used → 0 ≡ suc b) → from_outcome b σ o ≡ record { reason = why o; made = 0; state = σ }
  unfolding from_outcome
  stops_at b σ (ended g) u = refl
  stops_at b σ full u = refl
  stops_at b σ (stepped τ) u = absurd (omega (arith, u refl))

  unique : (b : ℕ) {made : ℕ} {σ τ : State} → Runs S L made σ τ → (o : Outcome) → Named S L τ o → made ≤ b → (why o ≡ budget_used → made ≡ b) → run_from S L b σ ≡ record { reason = why o; made = made; state = τ }
  unfolding from_outcome
  unique zero {σ = σ} none o n l u = ap (λ x. record { reason = why x; made = 0; state = σ }) (sym (named_next S L σ o n))
  unique (suc b) {σ = σ} none o n l u = ap (from_outcome b σ) (sym (named_next S L σ o n)) ∙ stops_at b σ o u
  unique zero (more s r) o n l u = absurd (omega arith)
  unique (suc b) {σ = σ} (more {k = k} {τ = τ} {υ = υ} s r) o n l u =
      ap (from_outcome b σ) (step_next S L σ τ s) ∙ ap (one_more) (unique b r o n (omega arith) (λ e. omega (arith, u e)))

  pub run_unique : (b : ℕ) (σ : State) (reason : Why) (made : ℕ) (τ : State) → Run S L b σ reason made τ → record { reason = reason; made = made; state = τ } ≡ run_from S L b σ
  run_unique b σ reason made τ r =
      (λ i. record { reason = r.reason_is i; made = made; state = τ })
      ∙ sym (unique b r.steps r.outcome r.named r.within (λ e. r.used (r.reason_is ∙ e)))

module _ (S : Setting) where
  abbrev Fits : Job → Call → Reply → Type 0
  Fits j c r = Does S j c r.answer r.job

  -- what is worked out is what the rules say
  reply_does : (j : Job) (c : Call) → Fits j c (reply S j c)
  unfolding reply
  reply_does (closed L gs v) (change row limit) =
      cond_both (leb row S.last_row) _ _ (Fits (closed L gs v) (change row limit))
      (λ e. cond_both (leb (nat_abs limit) greatest_limit) _ _ (Fits (closed L gs v) (change row limit))
      (λ d. changes (leb-true _ _ e) (leb-true _ _ d))
      (λ d. refuses (limit_beyond (leb-true _ _ e) (leb-false _ _ d))))
      (λ e. refuses (no_row (leb-false _ _ e)))
  reply_does (closed L gs v) clear = clears
  reply_does (closed L gs v) begin_search = searches
  reply_does (closed L gs v) close = refuses no_close
  reply_does (closed L gs v) (run budget) = refuses no_run
  reply_does (running L σ) (change row limit) = refuses no_change
  reply_does (running L σ) clear = refuses no_clear
  reply_does (running L σ) begin_search = refuses no_search
  reply_does (running L σ) close = closes (next S L σ) (next_named S L σ)
  reply_does (running L σ) (run (pos budget)) =
      cond_both (leb (σ.steps + budget) most_steps) _ _ (Fits (running L σ) (run (pos budget)))
      (λ e. runs (leb-true _ _ e) (run_worked S L budget σ))
      (λ e. refuses (budget_beyond (leb-false _ _ e)))
  reply_does (running L σ) (run (negsuc below)) = refuses negative

  -- and nothing else is
  refuses_reply : (j : Job) (c : Call) (e : Refusal) → Refuses S j c e → replied (refused e) j ≡ reply S j c
  unfolding reply
  refuses_reply j c e no_run = refl
  refuses_reply j c e no_close = refl
  refuses_reply j c e no_change = refl
  refuses_reply j c e no_clear = refl
  refuses_reply j c e no_search = refl
  refuses_reply j c e (no_row {row = row} h) = sym (cond-false (leb row S.last_row) _ _ (lt-leb _ _ h))
  refuses_reply j c e (limit_beyond {row = row} {limit = limit} h d) =
      sym (cond-true (leb row S.last_row) _ _ (le-leb _ _ h) ∙ cond-false (leb (nat_abs limit) greatest_limit) _ _ (lt-leb _ _ d))
  refuses_reply j c e negative = refl
  refuses_reply j c e (budget_beyond {σ = σ} {budget = budget} h) = sym (cond-false (leb (σ.steps + budget) most_steps) _ _ (lt-leb _ _ h))

  does_reply : (j : Job) (c : Call) (a : Answer) (k : Job) → Does S j c a k → replied a k ≡ reply S j c
  unfolding reply
  does_reply j c a k (refuses {e = e} r) = refuses_reply j c e r
  does_reply j c a k (changes {row = row} {limit = limit} h d) =
      sym (cond-true (leb row S.last_row) _ _ (le-leb _ _ h) ∙ cond-true (leb (nat_abs limit) greatest_limit) _ _ (le-leb _ _ d))
  does_reply j c a k clears = refl
  does_reply j c a k searches = refl
  does_reply j c a k (runs {L} {σ} {τ} {budget} {made} {reason} h r) =
      ap (run_reply L) (run_unique S L budget σ reason made τ r) ∙ sym (cond-true (leb (σ.steps + budget) most_steps) _ _ (le-leb _ _ h))
  does_reply j c a k (closes {L} {σ} o n) = ap (λ x. replied taken (closed L σ.learned (Some (verdict σ x)))) (named_next S L σ o n)

pub call_law : CallLaw
call_law S j c = (reply_does S j c, λ a k d. (ap (λ r. r.answer) (does_reply S j c a k d), ap (λ r. r.job) (does_reply S j c a k d)))

-- what a list of calls comes to has a history
module _ (S : Setting) (L : Limits) where
  has_history : (p : Played) → History S L p.entries p.job → (cs : List Call) → History S L (play S p cs).entries (play S p cs).job
  has_history p h [] = h
  has_history p h (c ∷ cs) = has_history (one_call S p c) (called h (reply_does S p.job c)) cs

  play_append : (p : Played) (cs ds : List Call) → play S p (cs ++ ds) ≡ play S (play S p cs) ds
  play_append p [] ds = refl
  play_append p (c ∷ cs) ds = play_append (one_call S p c) cs ds

  is_played : (es : List Entry) (j : Job) → History S L es j → record { entries = es; job = j } ≡ play S (unplayed L) (reverse (map (λ e. e.call) es))
  is_played es j opened = refl
  is_played es k (called {es = fs} {j = j} {c = c} {a = a} h d) =
      let xs : List Call = map (λ e. e.call) fs in
      let all : play S (unplayed L) (reverse (c ∷ xs)) ≡ one_call S (play S (unplayed L) (reverse xs)) c = ap (play S (unplayed L)) (reverse-cons c xs) ∙ play_append (unplayed L) (reverse xs) (c ∷ []) in
      let last : ◌≡◌ {A = Played} (record { entries = record { call = c; answer = a } ∷ fs; job = k }) (one_call S (record { entries = fs; job = j }) c) = ap (λ r. record { entries = record { call = c; answer = r.answer } ∷ fs; job = r.job }) (does_reply S j c a k d) in
      last ∙ ap (λ p. one_call S p c) (is_played fs j h) ∙ sym all

pub history_law : HistoryLaw
history_law S L = record { has_history = has_history S L (unplayed L) opened; is_played = is_played S L }

-- what is said of a call that is refused
abbrev IfRefused : Answer → Type 0 → Type 0
IfRefused taken P = Unit {0}
IfRefused (ran w k) P = Unit {0}
IfRefused (refused e) P = P

unaltered : {S : Setting} {j k : Job} {c : Call} {a : Answer} → Does S j c a k → IfRefused a (k ≡ j)
unaltered (refuses r) = refl
unaltered (changes p q) = tt
unaltered clears = tt
unaltered searches = tt
unaltered (runs p q) = tt
unaltered (closes o n) = tt

pub refusal_law : RefusalLaw
refusal_law S j k c e d = unaltered d
