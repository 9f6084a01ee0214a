-- Rows tested one after the other. Assumes nothing.
use Rattle.std.proofs.Common.{◌≡◌, ℕ, zero, suc, ◌<◌, Bool, true, false, ◌&&◌, refl, subst, ap₂, inl, inr, arith}
use Rattle.std.proofs.lemmas.Bool.{and_from, and_left, and_right, cases_lt}
use Rattle.rules.proofs.Bools.{split, clash}
use Rattle.exhaustive.specs.Trials.{all_first}

-- where one fails, not all of more pass
pub one_fails : (test : ℕ → Bool) (n k : ℕ) → k < n → test k ≡ false → all_first test n ≡ false
one_fails test zero k h e = absurd (omega arith)
one_fails test (suc n) k h e =
    elim (cases_lt k n) [
      | inl l ↦ and_left (all_first test n) (test n) (one_fails test n k l e)
      | inr l ↦ and_right (all_first test n) (test n) (let same : k ≡ n = omega arith in subst (λ x. test x ≡ false) same e)
    ]

pub all_same : (test other : ℕ → Bool) (n : ℕ) → ((k : ℕ) → test k ≡ other k) → all_first test n ≡ all_first other n
all_same test other zero h = refl
all_same test other (suc n) h = ap₂ ◌&&◌ (all_same test other n h) (h n)

pub all_at : (test : ℕ → Bool) (n k : ℕ) → all_first test n ≡ true → k < n → test k ≡ true
all_at test n k h l = split (test k) (λ e. e) (λ e. clash h (one_fails test n k l e))

pub all_from : (test : ℕ → Bool) (n : ℕ) → ((k : ℕ) → k < n → test k ≡ true) → all_first test n ≡ true
all_from test zero h = refl
all_from test (suc n) h = and_from (all_first test n) (test n) (all_from test n (λ k l. h k (omega arith))) (h n (omega arith))
