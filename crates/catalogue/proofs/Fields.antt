-- How far the fields of a place of a listing reach, and what holds of each place once one has a version more. Assumes nothing.
use Rattle.std.proofs.Common.{◌≡◌, ℕ, ◌+◌, ◌-◌, ◌<◌, ◌≤◌, List, All, slice_index_or, slice_set, length, length-set, ap, sym, subst, ◌∙◌, add-mul, mul-le-mul, arith}
use Rattle.std.proofs.lemmas.List.Elements.{All-set}
use Rattle.arrayvec.specs.ArrayVec.{ArrayVec, with_items}
use Rattle.arrayvec.proofs.ArrayVecLemmas.{items-with_items}
use Rattle.catalogue.specs.Listed.{amount_start, behind, grown, next_start, no_listed, version_width}
use Rattle.catalogue.specs.declared.listed.ListedPlace.{ListedPlace}

-- What holds of each place, and of one with a version more, holds of each once that one is written.
pub All-grown : (P : ListedPlace → Type 0) (v : ArrayVec ListedPlace) (xs ys : List ListedPlace) (i : ℕ) → xs ≡ v.items → ys ≡ v.items → P (grown (slice_index_or ys i no_listed)) → All P v.items → All P (with_items v (slice_set xs i (grown (slice_index_or xs i no_listed)))).items
All-grown P v xs ys i same also new each =
    let x = grown (slice_index_or xs i no_listed) in
    let here = subst (λ zs. P (grown (slice_index_or zs i no_listed))) (also ∙ sym same) new in
    let is = items-with_items v (slice_set xs i x) (length-set _ _ _ ∙ ap (λ zs. length zs) same) ∙ ap (λ zs. slice_set zs i x) same in
    subst (All P) (sym is) (All-set P v.items i x here each)

-- One version more takes the width of one field.
pub behind_more : (rows : ℕ) (p : ListedPlace) (k : ℕ) → behind rows p (k + 1) ≡ behind rows p k + version_width rows
behind_more rows p k = omega (arith, add-mul k 1 (version_width rows))

-- An amount does not pass the last field of its place.
pub amount_within : (rows : ℕ) (p : ListedPlace) (row v : ℕ) → row < rows → 1 ≤ v → v ≤ p.count → amount_start rows p row v + 4 ≤ next_start rows p
amount_within rows p row v in_row first last =
    let on : (v - 1) + 1 ≤ p.count = omega arith in
    let same : version_width rows ≤ version_width rows = omega arith in
    let all = mul-le-mul on same in
    omega (arith, behind_more rows p (v - 1))
