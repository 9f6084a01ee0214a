-- Where a place first stands in an order. Assumes nothing.
use Rattle.std.proofs.Common.{◌≡◌, ℕ, suc, ◌+◌, ◌≤◌, Bool, not, cond, eqb, ltb, List, [], ◌∷◌, length, get_or, Some, None, Option, sym, refl, ap, ◌∙◌, subst, arith}
use Rattle.std.specs.List.{position, position_or_len}
use Rattle.std.specs.Option.{option_map_or}
use Rattle.std.proofs.lemmas.Bool.{ltb-false}
use Rattle.std.proofs.lemmas.List.{get_or_past}
use Rattle.rules.specs.Grounds.{Part}
use Rattle.rules.specs.Settings.{version_in}
use Rattle.rules.proofs.Bools.{split}

version_at_first : (order : List ℕ) (c : Part) (q : ℕ) → length c ≤ length order → get_or c (position_or_len (λ x. eqb x q) order) 0 ≡ version_in order c q
version_at_first [] [] q h = refl
version_at_first [] (v ∷ c) q h = absurd (omega arith)
version_at_first (x ∷ order) [] q h = refl
version_at_first (x ∷ order) (v ∷ c) q h =
    let at = λ (t : Bool). get_or (v ∷ c) (cond (not t) (1 + position_or_len (λ y. eqb y q) order) 0) 0 ≡ cond t v (version_in order c q) in
    let more : 1 + position_or_len (λ y. eqb y q) order ≡ suc (position_or_len (λ y. eqb y q) order) = omega arith in
    split (eqb x q) (λ is. subst at (sym is) refl) (λ other. subst at (sym other) (ap (λ i. get_or (v ∷ c) i 0) more ∙ version_at_first order c q (omega arith)))

-- the version of a place is that at its first index; past the end of the part-choice there is none
pub version_found : (order : List ℕ) (c : Part) (q : ℕ) → length c ≤ length order → (found : Option ℕ) → found ≡ position (λ x. eqb x q) order → option_map_or (λ i. get_or c i 0) found 0 ≡ version_in order c q
version_found order c q h found e =
    let first = position_or_len (λ x. eqb x q) order in
    let of = λ (o : Option ℕ). option_map_or (λ i. get_or c i 0) o 0 ≡ version_in order c q in
    subst of (sym e)
    (split (ltb first (length order))
    (λ is. subst (λ (t : Bool). of (cond t (Some first) None)) (sym is) (version_at_first order c q h))
    (λ past. subst (λ (t : Bool). of (cond t (Some first) None)) (sym past) (sym (get_or_past c first 0 (omega (arith, ltb-false first (length order) past))) ∙ version_at_first order c q h)))
