-- One step more of a run. Assumes nothing.
use Rattle.std.proofs.Common.{◌≡◌, ℕ, suc, ◌+◌, ◌-◌, ◌<◌, ◌≤◌, leb, List, replicate, ℤ, pos, Option, sym, ap, ◌∙◌, arith}
use Rattle.std.proofs.lemmas.Bool.{le-leb, lt-leb, cond-true, cond-false}
use Rattle.rules.specs.declared.refusals.Refusal.TheVariants.{BudgetBeyond}
use Rattle.rules.specs.Bounds.{most_steps}
use Rattle.rules.specs.Sheets.{Limits}
use Rattle.rules.specs.Grounds.{Setting, Part, Ground}
use Rattle.rules.specs.Search.{State, Outcome, ended, full, stepped, start, next}
use Rattle.rules.specs.Calls.{has_ended, is_full, Ran, one_more, run_from, run, running, refused, replied, run_reply, reply}
use Rattle.ledger.specs.Model.{held}
use Rattle.search.specs.declared.grid.Grid.{Grid}
use Rattle.search.specs.States.{chosen_from, job_limits, best_in, part_in, state_of, AtRest, SameJob, SameBut}
use Rattle.search.specs.Runs.{after_steps}
use Rattle.search.specs.declared.search.Search.{Search}
use Rattle.search.proofs.NextSteps.{next_kept}

module _ (S : Setting) (L : Limits) (σ : State) where
  abbrev pub onward : ℕ → Outcome → Ran
  onward b o =
      elim o [
        | ended g ↦ record { reason = has_ended; made = 0; state = σ }
        | full ↦ record { reason = is_full; made = 0; state = σ }
        | stepped τ ↦ one_more (run_from S L b τ)
      ]

  -- of all that a run of budget n comes to, k steps have been made, and this is one more
  ran_more : (all : Ran) (k n : ℕ) → all ≡ after_steps k (run_from S L (n - k) σ) → (τ : State) → stepped τ ≡ next S L σ → k < n → all ≡ after_steps (k + 1) (run_from S L (n - (k + 1)) τ)
  ran_more all k n so_far τ e low =
      let left : n - k ≡ suc (n - (k + 1)) = omega arith in
      let rest = run_from S L (n - (k + 1)) τ in
      let on : k + suc rest.made ≡ k + 1 + rest.made = omega arith in
      so_far ∙ ap (λ b. after_steps k (run_from S L b σ)) left ∙ ap (λ o. after_steps k (onward (n - (k + 1)) o)) (sym e)
      ∙ ap (λ m. record { reason = rest.reason; made = m; state = rest.state }) on

-- a state by its parts, and the state of a search that has begun
same_state : {p q : Part} {b c : Option Part} {x y : ℤ} {i j : ℕ} {g h : List Ground} → p ≡ q → b ≡ c → x ≡ y → i ≡ j → g ≡ h → ◌≡◌ {A = State} (record { part = p; best = b; cap = x; steps = i; learned = g }) (record { part = q; best = c; cap = y; steps = j; learned = h })
same_state p b x i g = cc

pub begun : (s t : Search) → SameBut s t → AtRest t → t.cap ≡ job_limits t 0 → part_in s s.part ≡ replicate s.grid.places 1 → state_of s ≡ start (chosen_from t) (job_limits t) (held t.ledger)
begun s t same rest cap ones =
    same_state
    (ones ∙ ap (λ (g : Grid). replicate g.places 1) same.0.0)
    (ap (best_in s) (same.2 ∙ rest.2))
    (same.3 ∙ cap)
    (same.4 ∙ rest.3)
    (ap held same.1)

-- a search that began as s₀ and is s after k steps of a run
module _ (s₀ s : Search) (n k : ℕ) (same : SameJob s s₀) (so_far : run_from (chosen_from s₀) (job_limits s₀) n (state_of s₀) ≡ after_steps k (run_from (chosen_from s₀) (job_limits s₀) (n - k) (state_of s))) where
  pub run_more : (τ : State) → stepped τ ≡ next (chosen_from s) (job_limits s) (state_of s) → k < n → run_from (chosen_from s₀) (job_limits s₀) n (state_of s₀) ≡ after_steps (k + 1) (run_from (chosen_from s₀) (job_limits s₀) (n - (k + 1)) τ)
  run_more τ e low = ran_more (chosen_from s₀) (job_limits s₀) (state_of s) _ k n so_far τ (e ∙ next_kept s s₀ (state_of s) same) low

-- what a run answers
module _ (S : Setting) (L : Limits) (σ : State) (b : ℕ) where
  pub run_beyond : most_steps < σ.steps + b → reply S (running L σ) (run (pos b)) ≡ replied (refused BudgetBeyond) (running L σ)
  unfolding reply
  run_beyond far = cond-false (leb (σ.steps + b) most_steps) _ _ (lt-leb (σ.steps + b) most_steps far)

  pub run_within : σ.steps + b ≤ most_steps → reply S (running L σ) (run (pos b)) ≡ run_reply L (run_from S L b σ)
  unfolding reply
  run_within near = cond-true (leb (σ.steps + b) most_steps) _ _ (le-leb (σ.steps + b) most_steps near)
