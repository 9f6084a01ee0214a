-- The amounts of rows, tested one after the other in a loop. Assumes nothing.
use Rattle.std.proofs.Common.{◌≡◌, ℕ, suc, ◌+◌, ◌-◌, ◌<◌, ◌≤◌, Bool, true, false, cond, leb, List, [], ◌∷◌, ℤ, nat_abs, Some, None, Ok, Err, Option, sym, ap, ◌∙◌, subst, arith}
use Rattle.std.proofs.lemmas.Bool.{le-leb, lt-leb}
use Rattle.rules.specs.declared.refusals.Fault.{Fault}
use Rattle.rules.specs.Bounds.{greatest_amount}
use Rattle.rules.specs.Openings.{each_to, first_fault, amount_test, amount_tests, after_tests, checked}
use Rattle.rules.proofs.TestLoops.{each_more, each_fails, each_done}

-- the amounts of the rows, tested one after the other from row 0 on
module _ (amount : ℕ → ℤ) (bad : ℕ → Fault) where
  abbrev pub by_row : ℕ → List (Option Fault)
  by_row k = amount_test (amount (k - 1)) (bad (k - 1)) ∷ []

  at_row : (k : ℕ) (b : Bool) → leb (nat_abs (amount k)) greatest_amount ≡ b → first_fault (by_row (k + 1)) ≡ cond b None (Some (bad k))
  at_row k true e = let back : k + 1 - 1 ≡ k = omega arith in simp (back, e)
  at_row k false e = let back : k + 1 - 1 ≡ k = omega arith in simp (back, e)

  -- a row whose amount is near passes, one whose amount is far fails, and after the last row all have passed
  pub rows_more : (k : ℕ) (z : ℤ) → z ≡ amount k → first_fault (each_to by_row k) ≡ None → nat_abs z ≤ greatest_amount → first_fault (each_to by_row (k + 1)) ≡ None
  rows_more k z is h near = each_more by_row (k + 1) k (omega arith) h (at_row k true (le-leb _ _ (subst (λ z. nat_abs z ≤ greatest_amount) is near)))

  pub rows_fail : (m k : ℕ) (z : ℤ) (f : Fault) → z ≡ amount k → k < suc m → first_fault (each_to by_row k) ≡ None → greatest_amount < nat_abs z → f ≡ bad k → Err f ≡ checked (amount_tests (suc m) amount bad)
  rows_fail m k z f is l h far same =
      let found = each_fails by_row (suc m) (k + 1) k (bad k) (omega arith) (omega arith) h (at_row k false (lt-leb _ _ (subst (λ z. greatest_amount < nat_abs z) is far))) in
      ap Err same ∙ sym (ap (λ o. after_tests o (tt {0})) found)

  pub rows_passed : (m k : ℕ) → k ≡ suc m → first_fault (each_to by_row k) ≡ None → Ok (tt {0}) ≡ checked (amount_tests (suc m) amount bad)
  rows_passed m k last h = each_done by_row (suc m) k last h
