-- The three kinds of joining keep the laws. Assumes nothing.
use Rattle.std.proofs.Common.{◌≡◌, ◌+◌, ◌-◌, ◌^◌, ◌≤◌, true, false, not, ℤ, negsuc, ◌+ℤ◌, nat_abs, sym, arith}
use lib.IntN.{+ℤ_assoc, +ℤ_comm, +ℤ_idl}
use borrow.Author.Differences.{abs_is}
use lib.Signed.{lt_z}
use Rattle.std.specs.Int.{int_max}
use Rattle.std.proofs.lemmas.Int.{ints, clamps}
use Rattle.rules.specs.declared.kinds.Kind.{Kind}
use Rattle.rules.specs.declared.kinds.Kind.TheVariants.{SumAtMost, SumAtLeast, GreatestAtMost}
use Rattle.rules.specs.Joinings.{Laws, joining, sum_at_most, sum_at_least, greatest_at_most}

one_less : (a b : ℤ) → (a ≡ b → ⊥) → lt_z a b ≡ not (lt_z b a)
one_less a b h = grind (arith, ints)

less_irreflexive : (a : ℤ) → lt_z a a ≡ false
less_irreflexive a = grind (arith, ints)

less_transitive : (a b c : ℤ) → lt_z a b ≡ true → lt_z b c ≡ true → lt_z a c ≡ true
less_transitive a b c h k = grind (arith, ints)

sum_near : (a b : ℤ) → nat_abs (a +ℤ b) ≤ nat_abs a + nat_abs b
sum_near a b = omega (arith, ints, abs_is)

sum_monotone : (a b c : ℤ) → lt_z a b ≡ false → lt_z (a +ℤ c) (b +ℤ c) ≡ false
sum_monotone a b c h = grind (arith, ints)

max_near : (a b : ℤ) → nat_abs (int_max a b) ≤ nat_abs a + nat_abs b
max_near a b = omega (arith, ints, clamps, abs_is)

max_assoc : (a b c : ℤ) → int_max (int_max a b) c ≡ int_max a (int_max b c)
max_assoc a b c = omega (arith, ints, clamps)

max_comm : (a b : ℤ) → int_max a b ≡ int_max b a
max_comm a b = omega (arith, ints, clamps)

max_unit : (a : ℤ) → nat_abs a ≤ 2 ^ 40 → int_max (negsuc (2 ^ 40 - 1)) a ≡ a
max_unit a h = omega (arith, ints, clamps, abs_is)

max_monotone : (a b c : ℤ) → lt_z b a ≡ false → lt_z (int_max b c) (int_max a c) ≡ false
max_monotone a b c h = grind (arith, ints, clamps)

pub sum_at_most_laws : Laws sum_at_most
sum_at_most_laws =
    record {
      assoc = +ℤ_assoc;
      comm = +ℤ_comm;
      near = sum_near;
      unit_near = omega arith;
      unit_join = λ a _. +ℤ_idl a;
      exactly_one = λ a b h. one_less b a (λ e. h (sym e));
      irreflexive = less_irreflexive;
      transitive = λ a b c h k. less_transitive c b a k h;
      monotone = λ a b c h. sum_monotone b a c h;
    }

pub sum_at_least_laws : Laws sum_at_least
sum_at_least_laws =
    record {
      assoc = +ℤ_assoc;
      comm = +ℤ_comm;
      near = sum_near;
      unit_near = omega arith;
      unit_join = λ a _. +ℤ_idl a;
      exactly_one = one_less;
      irreflexive = less_irreflexive;
      transitive = less_transitive;
      monotone = sum_monotone;
    }

pub greatest_at_most_laws : Laws greatest_at_most
greatest_at_most_laws =
    record {
      assoc = max_assoc;
      comm = max_comm;
      near = max_near;
      unit_near = omega arith;
      unit_join = max_unit;
      exactly_one = λ a b h. one_less b a (λ e. h (sym e));
      irreflexive = less_irreflexive;
      transitive = λ a b c h k. less_transitive c b a k h;
      monotone = max_monotone;
    }

pub kind_laws : (k : Kind) → Laws (joining k)
kind_laws SumAtMost = sum_at_most_laws
kind_laws SumAtLeast = sum_at_least_laws
kind_laws GreatestAtMost = greatest_at_most_laws
