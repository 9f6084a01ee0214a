-- How the amounts of a row are joined, and which of two is worse. Assumes nothing.
use Rattle.std.specs.Prelude.{◌≡◌, ℕ, zero, suc, ◌+◌, ◌-◌, ◌≤◌, Bool, true, false, if◌then◌else◌, not, ℤ, pos, negsuc, ◌+ℤ◌, Some, None, Option, ◌==◌, ◌≢◌, int_lt, unsigned_abs}
use Rattle.std.specs.Int.{int_max}
use Rattle.rules.specs.declared.kinds.Kind.{Kind}
use Rattle.rules.specs.declared.kinds.Kind.TheVariants.{SumAtMost, SumAtLeast, GreatestAtMost}
use Rattle.rules.specs.Bounds.{amount_reach}

-- A unit, a rule that joins two amounts, and a test whether the first of two is worse: an ordered commutative monoid, up to the bound on the unit's law.
pub record Joining : Type 0 where
  pub unit : ℤ
  pub join : ℤ → ℤ → ℤ
  pub worse : ℤ → ℤ → Bool

-- What every joining keeps; grounds and searches rest on these laws alone, and, in row 0, on its kind.
pub record Laws (J : Joining) : Type 0 where
  -- grouping and order don't matter
  pub assoc : (a b c : ℤ) → J.join (J.join a b) c ≡ J.join a (J.join b c)
  pub comm : (a b : ℤ) → J.join a b ≡ J.join b a
  -- two amounts joined lie no further from 0 than both their distances added
  pub near : (a b : ℤ) → unsigned_abs (J.join a b) ≤ unsigned_abs a + unsigned_abs b
  pub unit_near : unsigned_abs J.unit ≤ amount_reach
  -- the unit alters no amount within the reach of a catalogue's amounts
  pub unit_join : (a : ℤ) → unsigned_abs a ≤ amount_reach → J.join J.unit a ≡ a
  -- of two different amounts exactly one is worse, none is worse than itself, and worse than a worse one is worse
  pub exactly_one : (a b : ℤ) → a ≢ b → J.worse a b ≡ not (J.worse b a)
  pub irreflexive : (a : ℤ) → J.worse a a ≡ false
  pub transitive : (a b c : ℤ) → J.worse a b ≡ true → J.worse b c ≡ true → J.worse a c ≡ true
  -- what isn't worse stays so when both are joined with a third
  pub monotone : (a b c : ℤ) → J.worse a b ≡ false → J.worse (J.join a c) (J.join b c) ≡ false

-- One amount joined onto what is joined so far.
abbrev pub onto : Joining → ℤ → ℤ → ℤ
onto J k amount = J.join k amount

-- The amounts numbered from 1 up to one, joined onto the unit one after the other.
abbrev pub joined_over : Joining → (ℕ → ℤ) → ℕ → ℤ
joined_over J amount zero = J.unit
joined_over J amount (suc q) = onto J (joined_over J amount q) (amount (suc q))

-- The amounts are added, and the greater is worse.
abbrev pub sum_at_most : Joining
sum_at_most = record { unit = pos 0; join = ◌+ℤ◌; worse = λ a b. int_lt b a }

-- The amounts are added, and the less is worse.
abbrev pub sum_at_least : Joining
sum_at_least = record { unit = pos 0; join = ◌+ℤ◌; worse = λ a b. int_lt a b }

-- The greater is taken, and the greater is worse; the unit is the least number in the reach of a catalogue's amounts.
abbrev pub greatest_at_most : Joining
greatest_at_most = record { unit = negsuc (amount_reach - 1); join = int_max; worse = λ a b. int_lt b a }

-- The joining of a kind.
abbrev pub joining : Kind → Joining
joining SumAtMost = sum_at_most
joining SumAtLeast = sum_at_least
joining GreatestAtMost = greatest_at_most

-- The number that stands for a kind in sheets and files.
abbrev pub kind_number : Kind → ℕ
kind_number SumAtMost = 1
kind_number SumAtLeast = 2
kind_number GreatestAtMost = 3

-- The kind that a number stands for, if it stands for one.
abbrev pub kind_numbered : ℕ → Option Kind
kind_numbered n =
    if n == 1 then Some SumAtMost
    else if n == 2 then Some SumAtLeast
    else if n == 3 then Some GreatestAtMost
    else None
