-- What the sums of a search tell. Assumes nothing.
use Rattle.std.proofs.Common.{◌≡◌, ℕ, ◌+◌, ◌<◌, ◌≤◌, get_or, drop, ◌∷◌, pos, nat_abs, sym, ap, ◌∙◌, subst, arith}
use Rattle.std.proofs.lemmas.List.{get_or_default}
use Rattle.rules.specs.Bounds.{most_places, most_rows}
use Rattle.rules.specs.Grounds.{with_amount, part_total}
use Rattle.ledger.specs.Lines.{reach}
use Rattle.search.specs.Parts.{versions_of}
use Rattle.search.specs.Sums.{no_sums, Totals}
use Rattle.search.specs.States.{chosen_from, above}
use Rattle.search.specs.declared.search.Search.{Search}
use Rattle.search.specs.declared.sums.RowSums.{RowSums}
use Rattle.search.proofs.Parts.{open_above}
use Rattle.search.proofs.TotalsAbove.{total_more, total_small}

-- the sums that are read at a level
module _ (s : Search) (level : ℕ) (from : s.part.opened ≤ level) (to : level ≤ s.grid.places) (d : RowSums) where
  pub totals_read : Totals (chosen_from s) (drop level (versions_of s.grid.places s.part)) (get_or s.sums level d)
  totals_read =
      subst (Totals (chosen_from s) (drop level (versions_of s.grid.places s.part)))
      (get_or_default s.sums level no_sums d (omega (arith, to, s.grid.few_places, s.levels)))
      (s.summed level from to)

  pub read_near : (row : ℕ) → row < most_rows → nat_abs (get_or (get_or s.sums level d).rows row (pos 0)) ≤ reach most_places
  read_near row low = subst (λ z. nat_abs z ≤ reach most_places) (sym (totals_read row low)) (total_small s.grid s.part row level)

-- the total with a version picked on top of those above it
pub total_with : (s : Search) (row index v : ℕ) → index < s.grid.places → with_amount (chosen_from s) row (index + 1) v (part_total (chosen_from s) row (above s index)) ≡ part_total (chosen_from s) row (v ∷ above s index)
total_with s row index v there =
    let at = open_above s index there in
    sym (total_more (chosen_from s) row v (above s index) (omega arith) ∙ ap (λ p. with_amount (chosen_from s) row p v (part_total (chosen_from s) row (above s index))) at)
