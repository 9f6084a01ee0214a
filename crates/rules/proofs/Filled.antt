-- A table that a closure fills, index by index. Assumes nothing.
use Rattle.std.proofs.Common.{◌≡◌, ℕ, zero, suc, ◌+◌, ◌<◌, ◌≤◌, List, map, get_or, sym, subst, inl, inr, arith}
use denote.Param.Members.{Mut, Called}
use Rattle.std.specs.List.{range_with_len}
use Rattle.std.specs.Array.{IsFromFnResult, IsFromFnResultFrom}
use Rattle.std.proofs.lemmas.Bool.{cases_lt}
use Rattle.std.proofs.lemmas.List.FromFn.{fill_by_all}

-- what each answer has, where the closure stays as it is, each element of the table has
module _ {F B : Type 0} (g : Mut F (ℕ × Unit {0}) B) (f : F) (n : ℕ) (P : ℕ → B → Type 0) (makes : (i : ℕ) (y : B) (q : F) → i < n → Called g f (i, tt) y q → (q ≡ f) × P i y) where
  made : (k i : ℕ) (ys : List B) → i + k ≤ n → IsFromFnResultFrom g f ys i k → (r : ℕ) → i ≤ r → r < i + k → (d : B) → P r (get_or ys r d)
  made zero i ys l e r from to d = absurd (omega arith)
  made (suc k) i ys l e r from to d =
      let m = makes i e.1 e.0 (omega arith) e.3 in
      elim (cases_lt i r) [
        | inl later ↦ made k (i + 1) ys (omega arith) (subst (λ q. IsFromFnResultFrom g q ys (i + 1) k) m.0 e.4) r (omega arith) (omega arith) d
        | inr here ↦ let same : i ≡ r = omega arith in subst (λ k. P k (get_or ys k d)) same (subst (P i) (sym (e.2.1 d)) m.1)
      ]

  pub each_filled : (ys : List B) (d : B) → IsFromFnResult g f ys n → (r : ℕ) → r < n → P r (get_or ys r d)
  each_filled ys d e r to = made n 0 ys (omega arith) e.each r (omega arith) (omega arith) d

-- so where the answers are a function's, the table is that function's
pub filled : {F B : Type 0} (g : Mut F (ℕ × Unit {0}) B) (f : F) (n : ℕ) (h : ℕ → B) → ((i : ℕ) (y : B) (q : F) → i < n → Called g f (i, tt) y q → (q ≡ f) × (y ≡ h i)) → (ys : List B) → B → IsFromFnResult g f ys n → ys ≡ map h (range_with_len 0 n)
filled g f n h makes ys d e = fill_by_all h ys n d e.long (each_filled g f n (λ i y. y ≡ h i) makes ys d e)
