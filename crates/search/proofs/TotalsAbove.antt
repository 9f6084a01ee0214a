-- What the amounts above a level come to, by which a line is joined once. Assumes nothing.
use Rattle.std.proofs.Common.{◌≡◌, ℕ, suc, ◌+◌, ◌*◌, ◌<◌, ◌≤◌, ltb, List, [], ◌∷◌, length, get_or, take, drop, set, ℤ, pos, nat_abs, sym, refl, ap, ◌∙◌, subst, inl, inr, arith, length-drop, ◌-◌, IfSome, Some, w64, to_z, of_z}
use borrow.Author.Differences.{ints}
use Rattle.std.proofs.Math.Seq.{take-set-lt}
use Rattle.std.proofs.lemmas.List.{drop_all, drop_more, drop-set-lt, get_or-set_same, get_or-set_other, length-take-le}
use Rattle.std.proofs.lemmas.Bool.{cases_lt, cond_both}
use Rattle.rules.specs.Bounds.{most_places, amount_reach, greatest_amount}
use Rattle.rules.specs.Joinings.{Laws}
use Rattle.rules.specs.Grounds.{Setting, Part, open_places, with_amount, joined_above, part_total}
use Rattle.rules.proofs.Joined.{joined_on}
use Rattle.rules.proofs.JoiningLaws.{kind_laws}
use Rattle.rules.specs.declared.kinds.Kind.TheVariants.{SumAtMost}
use Rattle.ledger.specs.Lines.{reach}
use Rattle.search.specs.Tables.{has_version, slot}
use Rattle.search.specs.Settings.{setting}
use Rattle.search.specs.Parts.{versions_of}
use Rattle.search.specs.Sums.{joined_onto, total_above, no_sums, Totals, SummedFrom}
use Rattle.search.specs.declared.part as declared
use Rattle.search.specs.declared.grid.Grid.{Grid}
use Rattle.search.specs.declared.sums.RowSums.{RowSums}
use Rattle.search.proofs.Parts.{put_on}
use Rattle.search.proofs.Aboves.{opened_is}

-- a version more
pub total_more : (S : Setting) (row v : ℕ) (t : Part) → 0 < open_places S t → part_total S row (v ∷ t) ≡ with_amount S row (open_places S t) v (part_total S row t)
total_more S row v t some = joined_on S row 0 (S.joining row).unit v t some

module _ (S : Setting) (row : ℕ) (laws : Laws (S.joining row)) (near : (p v : ℕ) → nat_abs (S.amount row p v) ≤ greatest_amount) where
  total_near : (c : Part) → nat_abs (part_total S row c) ≤ amount_reach + length c * greatest_amount
  total_near [] = omega (arith, laws.unit_near)
  total_near (v ∷ t) =
      let a = S.amount row (open_places S t) v in
      cond_both (ltb 0 (open_places S t)) _ _ (λ z. nat_abs z ≤ amount_reach + suc (length t) * greatest_amount)
      (λ e. omega (arith, laws.near (part_total S row t) a, near (open_places S t) v, total_near t))
      (λ e. omega (arith, total_near t))

  -- a constant joined with the amounts one by one is joined with their total
  apart : (level : ℕ) (k : ℤ) (v : ℕ) (t : Part) → level < open_places S t → joined_above S row level k (v ∷ t) ≡ (S.joining row).join k (part_total S row (v ∷ t))
  apart level k v [] low =
      let a = S.amount row (open_places S []) v in
      joined_on S row level k v [] low
      ∙ ap ((S.joining row).join k) (sym (total_more S row v [] (omega arith) ∙ laws.unit_join a (omega (arith, near (open_places S []) v))))
  apart level k v (w ∷ t) low =
      let a = S.amount row (open_places S (w ∷ t)) v in
      joined_on S row level k v (w ∷ t) low
      ∙ ap (λ x. (S.joining row).join x a) (apart level k w t (omega arith))
      ∙ laws.assoc k (part_total S row (w ∷ t)) a
      ∙ ap ((S.joining row).join k) (sym (total_more S row v (w ∷ t) (omega arith)))

-- each row of a grid keeps the laws, and has amounts within their bound
module _ (g : Grid) where
  pub laws_in : (row : ℕ) → Laws ((setting g).joining row)
  laws_in row = kind_laws (get_or g.kinds row SumAtMost)

  near_in : (row p v : ℕ) → nat_abs ((setting g).amount row p v) ≤ greatest_amount
  near_in row p v = cond_both (has_version v) (slot g.positions (p - 1) (v - 1) row) (pos 0) (λ z. nat_abs z ≤ greatest_amount) (λ e. g.near (p - 1) (v - 1) row) (λ e. omega arith)

  few_small : (row : ℕ) (c : Part) → nat_abs (part_total (setting g) row c) ≤ reach most_places → IfSome (total_above (setting g) row c) (λ sum. nat_abs sum ≤ reach most_places)
  few_small row [] h = tt
  few_small row (v ∷ t) h = h

  module _ (p : declared.Part.Part) where
    whole : length (versions_of g.places p) ≡ g.places
    whole = length-take-le g.places p.versions (omega (arith, p.long, g.few_places))

    pub total_small : (row level : ℕ) → nat_abs (part_total (setting g) row (drop level (versions_of g.places p))) ≤ reach most_places
    total_small row level =
        let c = drop level (versions_of g.places p) in
        let few : length c ≤ most_places = omega (arith, length-drop level (versions_of g.places p), whole, g.few_places) in
        omega (arith, total_near (setting g) row (laws_in row) (near_in row) c)

    pub above_small : (row level : ℕ) → IfSome (total_above (setting g) row (drop level (versions_of g.places p))) (λ sum. nat_abs sum ≤ reach most_places)
    above_small row level = few_small row (drop level (versions_of g.places p)) (total_small row level)

    -- the total that is read for a row, as what is above a level
    pub above_read : (row level : ℕ) → level < g.places → (z : ℤ) → z ≡ part_total (setting g) row (drop level (versions_of g.places p)) → Some (to_z w64 (of_z w64 z)) ≡ total_above (setting g) row (drop level (versions_of g.places p))
    above_read row level low z is =
        let S = setting g in
        let vs = versions_of g.places p in
        let near : nat_abs z ≤ reach most_places = subst (λ x. nat_abs x ≤ reach most_places) (sym is) (total_small row level) in
        let same : to_z w64 (of_z w64 z) ≡ z = omega (arith, ints, near) in
        ap Some (same ∙ is) ∙ subst (λ c. Some (part_total S row c) ≡ total_above S row c) (sym (drop_more vs level 0 (omega (arith, whole)))) refl

    -- what a constant comes to above its level
    pub joined_is : (row level : ℕ) (k : ℤ) → joined_onto ((setting g).joining row) k (total_above (setting g) row (drop level (versions_of g.places p))) ≡ joined_above (setting g) row level k (drop level (versions_of g.places p))
    joined_is row level k =
        let S = setting g in
        let vs = versions_of g.places p in
        elim (cases_lt level g.places) [
          | inl low ↦
              let head = drop_more vs level 0 (omega (arith, whole)) in
              let at = opened_is S vs whole (level + 1) (omega (arith, whole)) in
              subst (λ c. joined_onto (S.joining row) k (total_above S row c) ≡ joined_above S row level k c) (sym head)
              (sym (apart S row (laws_in row) (near_in row) level k (get_or vs level 0) (drop (level + 1) vs) (omega arith)))
          | inr past ↦ subst (λ c. joined_onto (S.joining row) k (total_above S row c) ≡ joined_above S row level k c) (sym (drop_all level vs (omega (arith, whole)))) refl
        ]

  -- the totals above a place stay when it takes another version, and those at its level are put in the table
  module _ (p q : declared.Part.Part) (i v : ℕ) (is : q.versions ≡ set p.versions i v) where
    above_kept : (level : ℕ) → i < level → drop level (versions_of g.places q) ≡ drop level (versions_of g.places p)
    above_kept level low = elim (cases_lt i g.places) [
      | inl there ↦ ap (λ vs. drop level (take g.places vs)) is ∙ ap (drop level) (take-set-lt g.places p.versions i v there) ∙ drop-set-lt level (versions_of g.places p) i v low
      | inr past ↦ drop_all level (versions_of g.places q) (omega (arith, whole q)) ∙ sym (drop_all level (versions_of g.places p) (omega (arith, whole p)))
    ]

    module _ (from : ℕ) (sums : List RowSums) (was : SummedFrom from g p sums) (reaches : from ≤ i + 1) where
      pub still_summed : SummedFrom (i + 1) g q sums
      still_summed level low high = subst (λ c. Totals (setting g) c (get_or sums level no_sums)) (sym (above_kept level (omega arith))) (was level (omega arith) high)

      pub summed_with : i < g.places → i < length sums → (new : RowSums) → Totals (setting g) (v ∷ drop (i + 1) (versions_of g.places p)) new → SummedFrom i g q (set sums i new)
      summed_with there within new totals level low high = elim (cases_lt i level) [
        | inl above ↦
            subst (Totals (setting g) (drop level (versions_of g.places q))) (sym (get_or-set_other sums i level new no_sums (λ e. omega arith))) (still_summed level (omega arith) high)
        | inr here ↦
            let same : i ≡ level = omega arith in
            subst (λ l. Totals (setting g) (drop l (versions_of g.places q)) (get_or (set sums i new) l no_sums)) same
            (subst (Totals (setting g) (drop i (versions_of g.places q))) (sym (get_or-set_same sums i new no_sums within))
            (subst (λ c. Totals (setting g) c new) (sym (ap (λ vs. drop i (take g.places vs)) is ∙ put_on p.versions g.places i v there (omega (arith, p.long, g.few_places)))) totals))
      ]
