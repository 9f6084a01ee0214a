use Rattle.std.proofs.Common.{pos, ap, rules}
use Rattle.rules.specs.Bounds.{most_rows}
use Rattle.rules.specs.Settings.{amount_in}
use Rattle.rules.proofs.Filled.{filled}
use Rattle.search.specs.Made.{amounts_in}
use Rattle.search.specs.declared.position.Amounts.{Amounts}
use Rattle.search.proofs.grid.makes.amounts_in.Goals as goal

pub returns : goal.returns
unfolding amounts_in
returns g c =
    let m = g.C.Catalogue.meaning c.args.checked.now.catalogue.now in
    ap {B = Amounts} (λ rows. record { rows = rows }) (filled _ _ most_rows (λ r. amount_in m r c.args.place c.args.version) (λ i y q low k. search rules) c.from_fn.result (pos 0) c.from_fn.ensures.items)
