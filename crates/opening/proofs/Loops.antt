-- The tests that the loops make. Assumes nothing.
use Rattle.std.proofs.Common.{ℕ, ◌-◌, List, [], ◌∷◌, Option}
use Rattle.rules.specs.declared.refusals.Fault.{Fault}
use Rattle.rules.specs.declared.refusals.Refusal.TheVariants.{AmountBeyond}
use Rattle.rules.specs.Catalogues.{Meaning}
use Rattle.rules.specs.Refusals.{fault_at}
use Rattle.rules.specs.Openings.{amount_test}

-- of a version, the test of the row below a number
abbrev pub by_row : Meaning → ℕ → ℕ → ℕ → List (Option Fault)
by_row m q v k = amount_test (m.amount (k - 1) q v) (fault_at AmountBeyond q v (k - 1)) ∷ []
