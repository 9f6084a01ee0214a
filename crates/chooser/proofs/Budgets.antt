-- A budget that is no number of steps. Assumes nothing.
use Rattle.std.proofs.Common.{◌≡◌, ℤ, ◌≢◌, ◌+◌, leb, pos, negsuc, Ok, refl}
use Rattle.std.proofs.lemmas.Bool.{cond_both}
use Rattle.rules.specs.declared.refusals.Refusal.TheVariants.{BudgetBeyond}
use Rattle.rules.specs.Sheets.{Limits}
use Rattle.rules.specs.Grounds.{Setting}
use Rattle.rules.specs.Search.{State}
use Rattle.rules.specs.Bounds.{most_steps}
use Rattle.rules.specs.Calls.{Ran, Reply, closed, refused, replied, reply, run, run_from, run_reply, running, taken}
use Rattle.rules.specs.KeptJobs.{KeptJob, faulty, faultless, heard, told_on}

-- it is refused, and alters nothing
pub negative_refused : (S : Setting) (L : Limits) (σ : State) (budget : ℤ) → ((n : _) → budget ≢ pos n) → reply S (running L σ) (run budget) ≡ replied (refused BudgetBeyond) (running L σ)
unfolding reply
negative_refused S L σ (pos n) none = absurd (none n refl)
negative_refused S L σ (negsuc below) none = refl

-- a run never answers that it was taken, and no more
tells_more : (L : Limits) (r : Ran) → Ok taken ≡ heard (run_reply L r).answer → ⊥
tells_more L r e = cc

pub run_tells : (S : Setting) (k : KeptJob) (budget : ℤ) → Ok taken ≡ told_on S k (run budget) → ⊥
unfolding reply
run_tells S (faulty f) budget e = cc
run_tells S (faultless (closed L gs v)) budget e = cc
run_tells S (faultless (running L σ)) (negsuc below) e = cc
run_tells S (faultless (running L σ)) (pos n) e =
    cond_both (leb (σ.steps + n) most_steps) (run_reply L (run_from S L n σ)) (replied (refused BudgetBeyond) (running L σ)) (λ (r : Reply). Ok taken ≡ heard r.answer → ⊥)
    (λ h. tells_more L (run_from S L n σ))
    (λ h x. cc)
    e
