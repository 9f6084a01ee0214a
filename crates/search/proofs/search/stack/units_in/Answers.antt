use Rattle.std.proofs.Common.{◌≡◌, [], pos, rules}
use Rattle.rules.specs.Bounds.{most_rows}
use Rattle.rules.specs.Grounds.{part_total}
use Rattle.rules.proofs.Filled.{each_filled}
use Rattle.search.specs.Settings.{setting}
use Rattle.search.proofs.search.stack.units_in.Goals as goal

pub returns : goal.returns
returns c = λ row low.
    each_filled _ _ most_rows (λ r y. y ≡ part_total (setting c.args.grid.now) r []) (λ i y q low k. search rules) c.from_fn.result (pos 0) c.from_fn.ensures.items row low
