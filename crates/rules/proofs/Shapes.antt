-- Learned grounds are well formed, and their constants are near 0. Assumes nothing.
use Rattle.std.proofs.Common.{◌≡◌, ℕ, zero, suc, ◌+◌, ◌*◌, ◌<◌, ◌≤◌, true, false, eqb, List, [], ◌∷◌, map, length, nat_abs, sym, ap, ◌∙◌, suc-mul, arith}
use Rattle.std.specs.List.{AllByRecursion}
use Rattle.std.proofs.ByRecursion.{All-weaker}
use Rattle.std.proofs.lemmas.Bool.Decides.{nat_tests}
use Rattle.std.proofs.lemmas.Bool.{cond_both, eqb-true}
use Rattle.rules.specs.declared.lines.Line.{Line}
use Rattle.rules.specs.Grounds.{Ground, Learnable, Ordered, Part, Setting, SoundSetting, WellFormed, before, by_learning, from_row, kept, learn_from, learned_up_to, moved, of_row, open_places, same_place, with_line, with_lines}
use Rattle.rules.proofs.ByPosition.{AmountsNear, Near}
use Rattle.rules.proofs.StandingLines.{with_line_all, with_lines_all}

module _ (S : Setting) where
  before_trans : (a b c : Line) → before a b ≡ true → before b c ≡ true → before a c ≡ true
  before_trans a b c h k = grind (arith, nat_tests)

  before_back : (a b : Line) → before a b ≡ false → same_place a b ≡ false → before b a ≡ true
  before_back a b h k = grind (arith, nat_tests)

  before_same : (a b c : Line) → same_place a b ≡ true → before b c ≡ true → before a c ≡ true
  before_same a b c h k = grind (arith, nat_tests)

  ordered_with_line : (a : Line) (g : Ground) → Ordered g → Ordered (with_line S a g)
  ordered_with_line a [] h = (tt, tt)
  ordered_with_line a (b ∷ g) h =
      cond_both (before a b) (a ∷ b ∷ g) _ (Ordered)
      (λ e. ((e, All-weaker (λ c. before b c ≡ true) (λ c. before a c ≡ true) (λ c. before_trans a b c e) g h.0), h))
      (λ e. cond_both (same_place a b) (kept S a b ∷ g) _ (Ordered)
      (λ d. (cond_both ((S.joining a.row).worse a.constant b.constant) b a (λ x. AllByRecursion (λ c. before x c ≡ true) g) (λ _. h.0) (λ _. All-weaker (λ c. before b c ≡ true) (λ c. before a c ≡ true) (λ c. before_same a b c d) g h.0), h.1))
      (λ d. (with_line_all S (λ c. before b c ≡ true) a g (before_back a b e d) h.0, ordered_with_line a g h.1)))

  pub ordered_with_lines : (ls : List Line) (g : Ground) → Ordered g → Ordered (with_lines S ls g)
  ordered_with_lines [] g h = h
  ordered_with_lines (a ∷ ls) g h = ordered_with_lines ls (with_line S a g) (ordered_with_line a g h)

  pub up_to_ordered : (t : Part) (pick : ℕ → Ground) (k : ℕ) → Ordered (learned_up_to S t pick k)
  up_to_ordered t pick zero = tt
  up_to_ordered t pick (suc k) = ordered_with_lines (map (moved S t (suc k)) (pick (suc k))) (learned_up_to S t pick k) (up_to_ordered t pick k)

  some_with_line : (a : Line) (g : Ground) → 1 ≤ length (with_line S a g)
  some_with_line a [] = omega arith
  some_with_line a (b ∷ g) =
      cond_both (before a b) (a ∷ b ∷ g) _ (λ x. 1 ≤ length x)
      (λ e. omega arith)
      (λ e. cond_both (same_place a b) (kept S a b ∷ g) _ (λ x. 1 ≤ length x) (λ d. omega arith) (λ d. omega arith))

  some_with_lines : (ls : List Line) (g : Ground) → 1 ≤ length ls + length g → 1 ≤ length (with_lines S ls g)
  some_with_lines [] g h = omega arith
  some_with_lines (a ∷ ls) g h = some_with_lines ls (with_line S a g) (omega (arith, some_with_line a g))

  some_moved : (t : Part) (v : ℕ) (g : Ground) → 1 ≤ length g → 1 ≤ length (map (moved S t v) g)
  some_moved t v [] h = absurd (omega arith)
  some_moved t v (l ∷ g) h = omega arith

  -- a line of a row and a level that there are, whose constant is near 0
  abbrev InRange : Line → Type 0
  InRange l = (l.row ≤ S.last_row) × (l.level ≤ S.places)

  module _ (W : SoundSetting S) (B : ℕ) (near : AmountsNear S B) where
    abbrev pub Shaped : Ground → Type 0
    Shaped g = WellFormed S g × AllByRecursion (Near B) g

    abbrev Fine : Line → Type 0
    Fine l = InRange l × Near B l

    fine_lines : (g : Ground) → AllByRecursion InRange g → AllByRecursion (Near B) g → AllByRecursion Fine g
    fine_lines [] h k = tt
    fine_lines (l ∷ g) h k = ((h.0, k.0), fine_lines g h.1 k.1)

    fine_moved : (t : Part) (v : ℕ) (l : Line) → length t < S.places → 1 ≤ v → v ≤ S.versions (open_places S t) → Fine l → Fine (moved S t v l)
    fine_moved t v l small p q h =
        cond_both (eqb (suc l.level) (open_places S t)) _ l Fine
        (λ e.
        let r = l.row in
        let d : suc l.level ≡ open_places S t = eqb-true _ _ e in
        let a : nat_abs (S.amount r (open_places S t) v) ≤ B = near r (open_places S t) v h.0.0 (omega arith) (omega arith) p q in
        let m : open_places S t * B ≡ l.level * B + B = ap (λ x. x * B) (sym d) ∙ suc-mul l.level B in
        ((h.0.0, omega arith), omega (arith, (W.laws r h.0.0).near l.constant (S.amount r (open_places S t) v), h.1)))
        (λ e. h)

    all_fine_moved : (t : Part) (v : ℕ) (ls : List Line) → length t < S.places → 1 ≤ v → v ≤ S.versions (open_places S t) → AllByRecursion Fine ls → AllByRecursion Fine (map (moved S t v) ls)
    all_fine_moved t v [] small p q h = tt
    all_fine_moved t v (l ∷ ls) small p q h = (fine_moved t v l small p q h.0, all_fine_moved t v ls small p q h.1)

    module _ (t : Part) (pick : ℕ → Ground) (small : length t < S.places) where
      up_to_fine : (k : ℕ) → k ≤ S.versions (open_places S t) → ((v : ℕ) → 1 ≤ v → v ≤ k → Shaped (pick v)) → AllByRecursion Fine (learned_up_to S t pick k)
      up_to_fine zero h all = tt
      up_to_fine (suc k) h all =
          let here = all (suc k) (omega arith) (omega arith) in
          with_lines_all S Fine (map (moved S t (suc k)) (pick (suc k))) (learned_up_to S t pick k)
          (all_fine_moved t (suc k) (pick (suc k)) small (omega arith) h (fine_lines (pick (suc k)) here.0.in_range here.1))
          (up_to_fine k (omega arith) (λ v p q. all v p (omega arith)))

      up_to_some : (k : ℕ) → 1 ≤ k → Shaped (pick k) → 1 ≤ length (learned_up_to S t pick k)
      up_to_some zero p h = absurd (omega arith)
      up_to_some (suc k) p h =
          some_with_lines (map (moved S t (suc k)) (pick (suc k))) (learned_up_to S t pick k) (omega (arith, some_moved t (suc k) (pick (suc k)) h.0.some_line))

      pub learn_from_shaped : ((v : ℕ) → 1 ≤ v → v ≤ S.versions (open_places S t) → Shaped (pick v)) → Shaped (learn_from S t pick)
      unfolding learn_from
      learn_from_shaped all =
          let k : ℕ = S.versions (open_places S t) in
          let some : 1 ≤ k = W.some_version (open_places S t) (omega arith) (omega arith) in
          let fine = up_to_fine k (omega arith) all in (
            record {
              some_line = up_to_some k some (all k some (omega arith));
              ordered = up_to_ordered t pick k;
              in_range = All-weaker Fine InRange (λ l h. h.0) (learned_up_to S t pick k) fine;
            },
            All-weaker Fine (Near B) (λ l h. h.1) (learned_up_to S t pick k) fine,
          )

    row_shaped : (r : ℕ) → r ≤ S.last_row → Shaped (of_row S r)
    row_shaped r h =
        (record { some_line = omega arith; ordered = (tt, tt); in_range = ((h, omega arith), tt) }, (omega (arith, (W.laws r h).unit_near), tt))

    -- a ground that can be learned is well formed, and its constants are near 0
    pub learnable_shaped : {g : Ground} → Learnable S g → Shaped g
    learnable_shaped (from_row r h) = row_shaped r h
    learnable_shaped (by_learning t pick small all) = learn_from_shaped t pick small (λ v p q. learnable_shaped (all v p q))
