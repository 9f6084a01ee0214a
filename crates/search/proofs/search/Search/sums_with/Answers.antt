use Rattle.std.proofs.Common.{◌≡◌, ◌∷◌, pos, rules}
use Rattle.rules.specs.Bounds.{most_rows}
use Rattle.rules.specs.Grounds.{part_total}
use Rattle.rules.proofs.Filled.{each_filled}
use Rattle.search.specs.States.{chosen_from, above}
use Rattle.search.proofs.search.Search.sums_with.Goals as goal

pub returns : goal.returns
returns c = λ row low.
    let s = c.args.self.now in
    let p = c.args.pick in
    each_filled _ _ most_rows (λ r y. y ≡ part_total (chosen_from s) r (p.version ∷ above s p.index)) (λ i y q low k. search rules) c.from_fn.result (pos 0) c.from_fn.ensures.items row low
