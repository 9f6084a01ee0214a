use Rattle.std.proofs.Common.{rules}
use Rattle.rules.specs.Bounds.{most_rows}
use Rattle.rules.specs.declared.kinds.Kind.TheVariants.{SumAtMost}
use Rattle.rules.proofs.Filled.{filled}
use Rattle.search.specs.Made.{kind_at, kinds_in}
use Rattle.search.proofs.grid.makes.kinds_in.Goals as goal

pub returns : goal.returns
unfolding kinds_in
returns c =
    filled _ _ most_rows (kind_at c.args.rows.now) (λ i y q low k. search rules) c.from_fn.result SumAtMost c.from_fn.ensures.items
