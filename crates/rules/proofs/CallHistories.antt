-- What every call keeps, along every history, by position. Assumes nothing.
use Rattle.std.proofs.Common.{◌≡◌, ℕ, suc, ◌+◌, ◌*◌, ◌<◌, ◌≤◌, ◌⊎◌, List, ◌∷◌, ℤ, pos, Some, None, Option, refl, ap, ◌∙◌, subst, inl, inr, arith}
use Rattle.std.specs.List.{AllByRecursion}
use Rattle.std.proofs.lemmas.Bool.{cases_lt}
use Rattle.rules.specs.declared.refusals.Refusal.{Refusal}
use Rattle.rules.specs.Bounds.{most_steps}
use Rattle.rules.specs.Sheets.{Limits}
use Rattle.rules.specs.Choices.{changed}
use Rattle.rules.specs.Grounds.{Ground, Learnable, Part, Setting, SoundSetting}
use Rattle.rules.specs.Search.{Ended, Full, Named, Outcome, Runs, State, Step, ended, found, full, learns, more, move, none, set, start, stepped}
use Rattle.rules.specs.Calls.{Answer, Call, Does, Finding, Job, Run, Verdict, Why, budget_used, changes, clears, closed, closes, filled, finding_at, least, nothing, ran, refused, refuses, run, running, runs, searches, unfinished, when_ended, why}
use Rattle.rules.specs.Histories.{BudgetKept, Entry, History, LastBudgetKept, began_with, called, grounds_after, learned_of, limits_after, limits_of, opened, steps_run}
use Rattle.rules.proofs.ByPosition.{Complete, PartCloses, PartKeeps, PartLeast}
use Rattle.rules.proofs.Invariant.{Invariant, Space, BestSoFar, start_invariant, runs_invariant}
use Rattle.rules.proofs.Potential.{parts, few_steps}
use Rattle.rules.proofs.Ending.{ended_closes, ended_least}

module _ (S : Setting) where
  -- runs one after the other
  runs_join : {L : Limits} {a b : ℕ} {σ τ υ : State} → Runs S L a σ τ → Runs S L b τ υ → Runs S L (a + b) σ υ
  runs_join {L} {b = b} {υ = υ} (none {σ = σ}) r = subst (λ k. Runs S L k σ υ) {y = 0 + b} (omega arith) r
  runs_join {L} {b = b} {υ = υ} (more {k = k} {σ = σ} s q) r = subst (λ k. Runs S L k σ υ) {y = suc k + b} (omega arith) (more s (runs_join q r))

  -- a step counts as one
  step_counts : {L : Limits} (σ τ : State) → Step S L σ τ → τ.steps ≡ suc σ.steps
  step_counts σ τ (move v w t e h low d) = ap (λ x. x.steps) d
  step_counts σ τ (found p f d) = ap (λ x. x.steps) d
  step_counts σ τ (set w p f low d) = ap (λ x. x.steps) d
  step_counts σ τ (learns t l space d) = ap (λ x. x.steps) d

  runs_count : {L : Limits} {k : ℕ} {σ τ : State} → Runs S L k σ τ → τ.steps ≡ k + σ.steps
  runs_count none = omega arith
  runs_count (more {k = k} {σ = σ} {τ = τ} {υ = υ} s r) = omega (arith, runs_count r, step_counts σ τ s)

  -- the best choice so far, if any, is one that keeps the limits
  abbrev pub PartBest : Limits → Option Part → Type 0
  PartBest L None = Unit {0}
  PartBest L (Some c) = Complete S c × PartKeeps S L c

  best_kept : (L : Limits) (best : Option Part) (cap : ℤ) → BestSoFar S L best cap → PartBest L best
  best_kept L None cap h = tt
  best_kept L (Some c) cap h = (h.0, h.1)

  -- what was found is right at these limits
  abbrev pub FoundRight : Limits → Finding → Type 0
  FoundRight L (least c g) = PartLeast S L (Some c) × PartCloses S L (Some c) g
  FoundRight L (nothing g) = PartLeast S L None × PartCloses S L None g
  FoundRight L (filled best) = PartBest L best
  FoundRight L (unfinished best) = PartBest L best

  -- how many steps a search may have made
  abbrev pub Counted : List Entry → ℕ → Type 0
  Counted es steps = (steps ≡ steps_run es) × (steps < 2 * parts S S.places)

  abbrev pub VerdictRight : Limits → List Entry → Option Verdict → Type 0
  VerdictRight L es None = Unit {0}
  VerdictRight L es (Some v) = Counted es v.steps × FoundRight L v.finding

  -- what every call keeps of a job whose last search began with these grounds
  abbrev pub Kept : List Ground → List Entry → Job → Type 0
  Kept began es (closed L gs v) = AllByRecursion (Learnable S) gs × Space gs × VerdictRight L es v
  Kept began es (running L σ) = AllByRecursion (Learnable S) began × Space began × Runs S L σ.steps (start S L began) σ × (σ.steps ≡ steps_run es)

  module _ (W : SoundSetting S) where
    pub invariant : (L : Limits) (began : List Ground) (es : List Entry) (σ : State) → Kept began es (running L σ) → Invariant S W L σ
    invariant L began es σ h = runs_invariant S W L (start_invariant S W L began h.0 h.1) h.2

    pub counted : (L : Limits) (began : List Ground) (es : List Entry) (σ : State) → Kept began es (running L σ) → Counted es σ.steps
    counted L began es σ h = (h.3, few_steps S W L began h.0 h.1 h.2)

    ended_right : (L : Limits) (best : Option Part) (g : Ground) → PartLeast S L best → PartCloses S L best g → FoundRight L (when_ended best g)
    ended_right L None g h k = (h, k)
    ended_right L (Some c) g h k = (h, k)

    -- what is found where the rules name an outcome
    pub found_right : (L : Limits) (σ : State) (o : Outcome) → Invariant S W L σ → Named S L σ o → FoundRight L (finding_at σ.best o)
    found_right L σ (ended g) i n = ended_right L σ.best g (ended_least S W L σ i g n) (ended_closes S W L σ i g n)
    found_right L σ full i n = best_kept L σ.best σ.cap i.best
    found_right L σ (stepped τ) i n = best_kept L σ.best σ.cap i.best

    refusal_keeps : (b : List Ground) (es : List Entry) (j : Job) (c : Call) (e : Refusal) → Kept b es j → Kept b (record { call = c; answer = refused e } ∷ es) j
    refusal_keeps b es (closed L gs None) c e h = h
    refusal_keeps b es (closed L gs (Some v)) c e h = h
    refusal_keeps b es (running L σ) c e h = h

    keeps : (b : List Ground) (es : List Entry) (j : Job) (c : Call) (a : Answer) (k : Job) → Kept b es j → Does S j c a k → Kept (grounds_after a j c b) (record { call = c; answer = a } ∷ es) k
    keeps b es j c a k h (refuses {e = e} r) = refusal_keeps b es j c e h
    keeps b es j c a k h (changes p q) = (h.0, h.1, tt)
    keeps b es j c a k h clears = (tt, (omega arith, omega arith), tt)
    keeps b es j c a k h searches = (h.0, h.1, none, refl)
    keeps b es j c a k h (runs {L} {σ} {τ} {made = made} p q) =
        let counts : τ.steps ≡ made + σ.steps = runs_count q.steps in
        (h.0, h.1, subst (λ n. Runs S L n (start S L b) τ) {y = τ.steps} (omega arith) (runs_join h.2 q.steps), omega (arith, h.3))
    keeps b es j c a k h (closes {L} {σ} o n) =
        let i : Invariant S W L σ = invariant L b es σ h in
        (i.learnable, i.space, (counted L b es σ h, found_right L σ o i n))

    pub all_kept : {L : Limits} {es : List Entry} {j : Job} (h : History S L es j) → Kept (began_with S h) es j
    all_kept opened = (tt, (omega arith, omega arith), tt)
    all_kept {es = es} {j = k} (called {es = fs} {j = j} {c = c} {a = a} h d) = keeps (began_with S h) fs j c a k (all_kept h) d

    -- the learned grounds of a job
    pub held : (began : List Ground) (es : List Entry) (j : Job) → Kept began es j → AllByRecursion (Learnable S) (learned_of j) × Space (learned_of j)
    held b es (closed L gs v) h = (h.0, h.1)
    held b es (running L σ) h = let i : Invariant S W L σ = invariant L b es σ h in (i.learnable, i.space)

  -- the limits in force
  limits_kept : (L : Limits) (es : List Entry) (j : Job) → limits_of j ≡ limits_after L es → (c : Call) (a : Answer) (k : Job) → Does S j c a k → limits_of k ≡ limits_after L (record { call = c; answer = a } ∷ es)
  limits_kept L es j e c a k (refuses r) = e
  limits_kept L es j e c a k (changes {row = row} {limit = limit} p q) = ap (λ M. changed M row limit) e
  limits_kept L es j e c a k clears = e
  limits_kept L es j e c a k searches = e
  limits_kept L es j e c a k (runs p q) = e
  limits_kept L es j e c a k (closes o n) = e

  pub all_limits : {L : Limits} {es : List Entry} {j : Job} → History S L es j → limits_of j ≡ limits_after L es
  all_limits opened = refl
  all_limits {L} {j = k} (called {es = fs} {j = j} {c = c} {a = a} h d) = limits_kept L fs j (all_limits h) c a k d

  -- the budget of a run
  run_budget : {L : Limits} {b : ℕ} {σ : State} {w : Why} {k : ℕ} {τ : State} → Run S L b σ w k τ → BudgetKept S (ran w k) (run (pos b)) (running L τ)
  run_budget {L} {b} {k = k} {τ = τ} r = by r.outcome r.named (λ e. r.used (r.reason_is ∙ e))
    where
      by : (o : Outcome) → Named S L τ o → (why o ≡ budget_used → k ≡ b) → (k ≡ b) ⊎ ((k < b) × (((g : Ground) × Ended S L τ g) ⊎ Full S L τ))
      by (ended g) n u = elim (cases_lt k b) [ inl h ↦ inr (h, inl (g, n)) | inr h ↦ inl (omega (arith, r.within)) ]
      by full n u = elim (cases_lt k b) [ inl h ↦ inr (h, inr n) | inr h ↦ inl (omega (arith, r.within)) ]
      by (stepped υ) n u = inl (u refl)

  budget_kept : {j : Job} {c : Call} {a : Answer} {k : Job} → Does S j c a k → BudgetKept S a c k
  budget_kept (refuses r) = tt
  budget_kept (changes p q) = tt
  budget_kept clears = tt
  budget_kept searches = tt
  budget_kept (runs p q) = run_budget q
  budget_kept (closes o n) = tt

  pub last_budget : {L : Limits} {es : List Entry} {j : Job} → History S L es j → LastBudgetKept S es j
  last_budget opened = tt
  last_budget (called h d) = budget_kept d

  -- the steps of a running search
  abbrev pub StepsWithin : Job → Type 0
  StepsWithin (closed L gs v) = Unit {0}
  StepsWithin (running L σ) = σ.steps ≤ most_steps

  does_within : {j : Job} {c : Call} {a : Answer} {k : Job} → StepsWithin j → Does S j c a k → StepsWithin k
  does_within h (refuses r) = h
  does_within h (changes p q) = tt
  does_within h clears = tt
  does_within h searches = omega arith
  does_within h (runs p q) = omega (arith, p, q.within, runs_count q.steps)
  does_within h (closes o n) = tt

  pub steps_within : {L : Limits} {es : List Entry} {j : Job} → History S L es j → StepsWithin j
  steps_within opened = tt
  steps_within (called h d) = does_within (steps_within h) d
