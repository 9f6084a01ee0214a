-- An element of a table written over. Assumes nothing.
use Rattle.std.proofs.Common.{◌≡◌, ℕ, List, set, ap, ◌∙◌, length-set}
use Rattle.arrayvec.specs.ArrayVec.{ArrayVec, with_items}
use Rattle.arrayvec.proofs.ArrayVecLemmas.{items-with_items}

pub written : {T : Type 0} (v : ArrayVec T) (lent : List T) (i : ℕ) (x : T) → lent ≡ v.items → (with_items v (set lent i x)).items ≡ set v.items i x
written {T} v lent i x same = ap (λ (t : List T). (with_items v (set t i x)).items) same ∙ items-with_items v (set v.items i x) (length-set v.items i x)
