-- A line put in at the place that a search finds. Assumes nothing.
use Rattle.std.proofs.Common.{◌≡◌, ℕ, zero, suc, ◌<◌, ◌≤◌, true, false, ◌∷◌, [], length, get_or, set, Ordering, Less, Equal, Greater, Result, Ok, Err, IfOk, IfErr, sym, refl, ap, ◌∙◌, inl, inr, arith}
use Rattle.std.specs.List.{insert, list_all}
use Rattle.std.specs.List.Sorted.{IsNonDecreasingBy, IsSearchInRange, IsBinarySearchResult}
use Rattle.std.specs.Ordering.{nat_cmp, ordering_then, ordering_index}
use Rattle.std.proofs.lemmas.Bool.{and_parts, cases_lt, cond-true, cond-false}
use Rattle.std.proofs.lemmas.Bool.Decides.{nat_tests}
use Rattle.std.proofs.lemmas.List.Sorted.{IsNonDecreasingBy-from_default}
use Rattle.std.proofs.lemmas.List.Sums.{AllPass-from_list_all}
use Rattle.rules.specs.declared.lines.Line.{Line}
use Rattle.rules.specs.Grounds.{Setting, Ground, before, same_place, kept, with_line}
use Rattle.ledger.specs.Lines.{no_line}
use Rattle.ledger.specs.Places.{rising, Meets, Between}

-- how a line lies to another, by row and then by level
abbrev pub by_place : Line → Line → Ordering
by_place b a = ordering_then (nat_cmp b.row a.row) (nat_cmp b.level a.level)

less_passed : (b a : Line) → by_place b a ≡ Less → (before a b ≡ false) × (same_place a b ≡ false)
less_passed b a h = grind (arith, nat_tests)

equal_same : (b a : Line) → by_place b a ≡ Equal → (before a b ≡ false) × (same_place a b ≡ true)
equal_same b a h = grind (arith, nat_tests)

greater_before : (b a : Line) → by_place b a ≡ Greater → before a b ≡ true
greater_before b a h = grind (arith, nat_tests)

before_less : (b c a : Line) → before b c ≡ true → by_place c a ≡ Equal → by_place b a ≡ Less
before_less b c a h e = grind (arith, nat_tests)

before_rises : (b c a : Line) → before b c ≡ true → ordering_index (by_place b a) ≤ ordering_index (by_place c a)
before_rises b c a h = grind (arith, nat_tests)

rising_at : (g : Ground) (i j : ℕ) → rising g ≡ true → i < j → j < length g → before (get_or g i no_line) (get_or g j no_line) ≡ true
rising_at [] i j rise lt within = absurd (omega arith)
rising_at (b ∷ g) zero zero rise lt within = absurd (omega arith)
rising_at (b ∷ g) zero (suc j) rise lt within = AllPass-from_list_all (before b) g (and_parts (list_all (before b) g) _ rise).0 j no_line (omega arith)
rising_at (b ∷ g) (suc i) zero rise lt within = absurd (omega arith)
rising_at (b ∷ g) (suc i) (suc j) rise lt within = rising_at g i j (and_parts (list_all (before b) g) _ rise).1 (omega arith) (omega arith)

-- along a ground in order the answers of a search rise
answers_rise : (a : Line) (g : Ground) → rising g ≡ true → IsNonDecreasingBy (λ b. ordering_index (by_place b a)) g
answers_rise a g rise = IsNonDecreasingBy-from_default (λ b. ordering_index (by_place b a)) g no_line (λ i j le within. elim (cases_lt i j) [
  | inl lt ↦ before_rises (get_or g i no_line) (get_or g j no_line) a (rising_at g i j rise lt within)
  | inr ge ↦ let same : i ≡ j = omega arith in omega (arith, ap (λ k. ordering_index (by_place (get_or g k no_line) a)) same)
])

module _ (S : Setting) (a : Line) where
  -- between the lines before it and the others
  with_between : (g : Ground) (i : ℕ) → i ≤ length g → ((k : ℕ) → k < i → by_place (get_or g k no_line) a ≡ Less) → ((k : ℕ) → i ≤ k → k < length g → by_place (get_or g k no_line) a ≡ Greater) → insert g i a ≡ with_line S a g
  with_between [] zero within less greater = refl
  with_between [] (suc i) within less greater = absurd (omega arith)
  with_between (b ∷ g) zero within less greater = sym (cond-true (before a b) _ _ (greater_before b a (greater 0 (omega arith) (omega arith))))
  with_between (b ∷ g) (suc i) within less greater =
      let passed = less_passed b a (less 0 (omega arith)) in
      ap (λ t. b ∷ t) (with_between g i (omega arith) (λ k lt. less (suc k) (omega arith)) (λ k le lt. greater (suc k) (omega arith) (omega arith)))
      ∙ sym (cond-false (before a b) _ _ passed.0 ∙ cond-false (same_place a b) _ _ passed.1)

  -- in the place of another
  with_same : (g : Ground) (i : ℕ) → rising g ≡ true → i < length g → by_place (get_or g i no_line) a ≡ Equal → set g i (kept S a (get_or g i no_line)) ≡ with_line S a g
  with_same [] i rise within same = absurd (omega arith)
  with_same (b ∷ g) zero rise within same =
      let there = equal_same b a same in
      sym (cond-false (before a b) _ _ there.0 ∙ cond-true (same_place a b) _ _ there.1)
  with_same (b ∷ g) (suc i) rise within same =
      let parts = and_parts (list_all (before b) g) _ rise in
      let passed = less_passed b a (before_less b (get_or g i no_line) a (AllPass-from_list_all (before b) g parts.0 i no_line (omega arith)) same) in
      ap (λ t. b ∷ t) (with_same g i parts.1 (omega arith) same)
      ∙ sym (cond-false (before a b) _ _ passed.0 ∙ cond-false (same_place a b) _ _ passed.1)

-- what a search by row and level finds in a ground in order
pub searched : (a : Line) (g : Ground) → rising g ≡ true → (r : Result ℕ ℕ) → IsSearchInRange r (length g) → IsBinarySearchResult (λ b. by_place b a) g r → record { found : IfOk r (Meets g a); absent : IfErr r (Between g a) }
searched a g rise (Ok at) within same = record { found = record { there = within; kept_there = λ S. with_same S a g at rise within (same no_line) }; absent = tt }
searched a g rise (Err at) within parted =
    let sides = parted (answers_rise a g rise) in
    record {
      found = tt;
      absent = record {
        there = within;
        put_there = λ S. with_between S a g at within (λ k lt. sides.0 k no_line (omega arith) lt) (λ k le lt. sides.1 k no_line le lt);
      };
    }
