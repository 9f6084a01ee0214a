-- The part-choices counted by position, from a part-choice down, and by place, over the order. Assumes nothing.
use Rattle.std.proofs.Common.{◌≡◌, ℕ, zero, suc, ◌+◌, ◌-◌, ◌*◌, ◌<◌, ◌≤◌, List, [], ◌∷◌, length, get_or, drop, sym, ap, ◌∙◌, ap₂, mul_assoc, mul_comm, one-mul, mul-one, mul-add, arith}
use Rattle.std.proofs.lemmas.List.{drop_more, drop_all}
use Rattle.rules.specs.Catalogues.{Meaning}
use Rattle.rules.specs.Choices.{ways, part_choices}
use Rattle.rules.specs.Grounds.{Setting}
use Rattle.rules.specs.Settings.{place_at}
use Rattle.rules.proofs.Potential.{parts}

module _ (m : Meaning) (S : Setting) (order : List ℕ) (n : length order ≡ S.places) (same : (p : ℕ) → 1 ≤ p → p ≤ S.places → S.versions p ≡ m.versions (place_at order p)) where
  -- the place at the next position, and those above it
  next_place : (u : ℕ) → u < S.places → drop u order ≡ place_at order (suc u) ∷ drop (suc u) order
  next_place u h =
      let here : u ≡ suc u - 1 = omega arith in
      let above : u + 1 ≡ suc u = omega arith in
      drop_more order u 0 (omega (arith, n)) ∙ ap₂ (λ i j. get_or order i 0 ∷ drop j order) here above

  -- the part-choices that go on from one of u open places, in each way of setting the others, and the part-choices that have more than u open
  counted_from : (k u : ℕ) → k + u ≡ S.places → parts S S.places + ways m (drop u order) ≡ part_choices m (drop u order) + ways m (drop u order) * parts S u
  counted_from zero u e =
      let d : drop u order ≡ [] = drop_all u order (omega (arith, n)) in
      let w : ways m (drop u order) ≡ 1 = ap (ways m) d in
      let c : part_choices m (drop u order) ≡ 1 = ap (part_choices m) d in
      let p : parts S u ≡ parts S S.places = ap (parts S) (omega arith) in
      let x : ways m (drop u order) * parts S u ≡ parts S u = ap (λ y. y * parts S u) w ∙ one-mul (parts S u) in
      omega arith
  counted_from (suc k) u e =
      let d = next_place u (omega arith) in
      let v : S.versions (suc u) ≡ m.versions (place_at order (suc u)) = same (suc u) (omega arith) (omega arith) in
      let w : ways m (drop u order) ≡ ways m (drop (suc u) order) * S.versions (suc u) = ap (ways m) d ∙ mul_comm _ _ ∙ ap (λ y. ways m (drop (suc u) order) * y) (sym v) in
      let c : part_choices m (drop u order) ≡ ways m (drop u order) + part_choices m (drop (suc u) order) = ap (part_choices m) d ∙ ap (λ y. ways m y + part_choices m (drop (suc u) order)) (sym d) in
      let above = counted_from k (suc u) (omega arith) in
      let spread : ways m (drop (suc u) order) * parts S (suc u) ≡ ways m (drop (suc u) order) + ways m (drop u order) * parts S u
      = mul-add (ways m (drop (suc u) order)) 1 (S.versions (suc u) * parts S u)
      ∙ ap₂ ◌+◌ (mul-one (ways m (drop (suc u) order))) (sym (mul_assoc (ways m (drop (suc u) order)) (S.versions (suc u)) (parts S u)) ∙ ap (λ y. y * parts S u) (sym w)) in
      omega (arith, above, c, spread)

  pub counts_agree : parts S S.places ≡ part_choices m order
  counts_agree = omega (arith, counted_from S.places 0 (omega arith), mul-one (ways m order))
