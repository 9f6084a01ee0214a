use Rattle.std.proofs.Common.{◌≡◌, ◌∷◌, take, drop, sym, ap₂, ◌∙◌, subst, arith}
use Rattle.search.specs.Sums.{Totals}
use Rattle.search.specs.States.{chosen_from, above, part_in}
use Rattle.search.proofs.Parts.{put_on}
use Rattle.search.proofs.TotalsAbove.{still_summed}
use Rattle.search.proofs.search.place.Place.trial.Goals as goal
use Rattle.search.proofs.search.place.Place.trial.Goals.{After-with}

-- with the picked version the part-choice is that version on those above
picked_is : (c : After-with) → part_in c.args.self.now.search.now c.with.result ≡ c.pick-pick.result.version ∷ above c.args.self.now.search.now c.pick-pick.result.index
picked_is c =
    let s = c.args.self.now.search.now in
    let pick = c.pick-pick.result in
    ap₂ (λ i vs. drop i (take s.grid.places vs)) c.with.ensures.opened c.with.ensures.versions
    ∙ put_on s.part.versions s.grid.places pick.index pick.version (omega (arith, c.pick-pick.ensures.index, c.args.self.now.there)) (omega (arith, s.part.long, s.grid.few_places))

pub invariant_of-result : goal.invariant_of-result
invariant_of-result c =
    let p = c.args.self.now in
    let s = p.search.now in
    let pick = c.pick-pick.result in
    let opened : c.with.result.opened ≡ pick.index = c.with.ensures.opened in
    let kept = still_summed s.grid s.part c.with.result pick.index pick.version c.with.ensures.versions s.part.opened s.sums s.summed (omega (arith, p.next, c.pick-pick.ensures.index)) in
    record {
      within = omega (arith, opened, p.there, c.pick-pick.ensures.index);
      totalled = subst (λ t. Totals (chosen_from s) t c.sums_with.result) (sym (picked_is (goal.at.invariant_of-result c).After-with)) c.sums_with.ensures;
      summed = λ level from to. kept level (omega (arith, opened, from)) to;
    }

pub returns-clause-tried : goal.returns-clause-tried
returns-clause-tried c =
    let s = c.args.self.now.search.now in
    picked_is (goal.at.returns-clause-tried c).After-with ∙ ap₂ (λ v i. v ∷ above s i) c.pick-pick.ensures.version c.pick-pick.ensures.index
