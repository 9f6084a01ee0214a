-- The tests of amounts, and what it says that they pass. Assumes nothing.
use Rattle.std.proofs.Common.{◌≡◌, ℕ, suc, ◌-◌, ◌<◌, ◌≤◌, leb, List, [], ◌∷◌, ℤ, nat_abs, Option, subst, arith}
use Rattle.std.specs.List.{AllByRecursion}
use Rattle.std.proofs.lemmas.Bool.{leb-true, le-leb}
use Rattle.rules.specs.declared.refusals.Fault.{Fault}
use Rattle.rules.specs.Bounds.{greatest_amount}
use Rattle.rules.specs.Openings.{amount_tests, amount_test}
use Rattle.rules.proofs.TestLists.{Passed, test_passed, passed_test, each_at, each_all}

module _ (n : ℕ) (amount : ℕ → ℤ) (beyond : ℕ → Fault) where
  by_row : ℕ → List (Option Fault)
  by_row k = amount_test (amount (k - 1)) (beyond (k - 1)) ∷ []

  pub amounts_within : AllByRecursion Passed (amount_tests n amount beyond) → (r : ℕ) → r < n → nat_abs (amount r) ≤ greatest_amount
  unfolding by_row
  amounts_within h r l =
      let t = each_at Passed by_row n h (suc r) (omega arith) (omega arith) in
      let at_row : suc r - 1 ≡ r = omega arith in
      subst (λ x. nat_abs (amount x) ≤ greatest_amount) at_row (leb-true _ _ (test_passed (leb (nat_abs (amount (suc r - 1))) greatest_amount) (beyond (suc r - 1)) t.0))

  pub within_amounts : ((r : ℕ) → r < n → nat_abs (amount r) ≤ greatest_amount) → AllByRecursion Passed (amount_tests n amount beyond)
  unfolding by_row
  within_amounts h =
      each_all Passed by_row n (λ k a b. (passed_test (leb (nat_abs (amount (k - 1))) greatest_amount) (beyond (k - 1)) (le-leb _ _ (h (k - 1) (omega arith))), tt))
