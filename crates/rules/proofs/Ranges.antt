-- What `all` answers over a range of numbers. Assumes nothing.
use Rattle.std.proofs.Common.{◌≡◌, ℕ, ◌+◌, ◌-◌, ◌≤◌, Bool, true, false, IsTrue, rules, arith, subst}
use denote.Param.Members.{Mut, Called}
use Rattle.std.specs.declared.ops.RangeInclusive.{RangeInclusive}
use Rattle.std.specs.Bool.{MatchBool}
use Rattle.std.specs.Range.{range_inclusive_start, range_inclusive_end, range_inclusive_exhausted}
use Rattle.std.specs.Iterator.Runs.{SomeRun, AllItemsGive, AnyItemGives}
use Rattle.std.proofs.iter.runs.Sources.{nat_range_inclusive_steps, ranges}

-- each number from one up to another passes a test
abbrev pub Each : ℕ → ℕ → (ℕ → Bool) → Type 0
Each a n test = (k : ℕ) → a ≤ k → k ≤ n → test k ≡ true

pub all_over : {F : Type 0} (g : Mut F (ℕ × Unit {0}) Bool) (f : F) (s : RangeInclusive ℕ) (a n : ℕ) (test : ℕ → Bool) (r : Bool)
    → range_inclusive_start s ≡ a → range_inclusive_end s ≡ n → range_inclusive_exhausted s ≡ false
    → ((k : ℕ) (b : Bool) (f' : F) → Called g f (k, tt) b f' → (f' ≡ f) × (b ≡ test k))
    → SomeRun nat_range_inclusive_steps s (λ p. MatchBool r (IsTrue p.whole × AllItemsGive p g f true) (AnyItemGives p g f false))
    → MatchBool r (Each a n test) (Each a n test → ⊥)
all_over g f s a n test true x y z acts run = λ k from to.
    let each = run.2.1 (λ x b f' h. (acts x.0 b f' h).0) (k - a) in
    let at : a + (k - a) ≡ k = omega arith in
    let here : test (a + (k - a)) ≡ true = search (rules, ranges, acts) in
    subst (λ j. test j ≡ true) at here
all_over g f s a n test false x y z acts run = λ all. search (rules, ranges, acts, all)
