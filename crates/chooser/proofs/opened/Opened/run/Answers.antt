use Rattle.std.proofs.Common.{◌≡◌, ℕ, pos, w32, to_z, of_z, FitsSigned, sym, refl, ap, ◌∙◌, subst, arith}
use borrow.Author.Differences.{ints}
use Rattle.std.specs.Int.{FitsUnsignedBits}
use Rattle.rules.specs.Calls.{Reply}
use Rattle.search.specs.States.{chosen_from, job_limits, state_of}
use Rattle.chooser.proofs.Budgets.{negative_refused}
use Rattle.chooser.proofs.opened.Opened.run.Goals as goal

pub returns-in_default : goal.returns-in_default
returns-in_default c =
    let s = c.args.self.now.search in
    let read : to_z w32 (of_z w32 c.args.budget) ≡ c.args.budget = omega (arith, ints) in
    let none : (n : ℕ) → c.args.budget ≡ pos n → ⊥ = λ n e.
    let fits : FitsSigned w32 (pos n) = subst (FitsSigned w32) e c.ranges.budget in
    c.in_default.ensures (subst (FitsUnsignedBits 32) (sym (read ∙ e)) (omega (arith, fits.sfits)))
    in
    let is = negative_refused (chosen_from s) (job_limits s) (state_of s) c.args.budget none in
    record { answer = sym (ap (λ (r : Reply). r.answer) is); job = sym (ap (λ (r : Reply). r.job) is); grid = refl }
