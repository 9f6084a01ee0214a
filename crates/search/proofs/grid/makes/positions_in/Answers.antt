use Rattle.std.proofs.Common.{suc, rules}
use Rattle.rules.specs.Bounds.{most_places}
use Rattle.rules.specs.Sheets.{order_of}
use Rattle.rules.specs.Settings.{place_at}
use Rattle.rules.proofs.Filled.{filled}
use Rattle.rules.proofs.OpeningTests.{none_faultless}
use Rattle.search.specs.Tables.{no_position}
use Rattle.search.specs.Made.{position_in, positions_in}
use Rattle.search.proofs.grid.makes.positions_in.Goals as goal

pub shared_ref_as_front-order : goal.shared_ref_as_front-order
shared_ref_as_front-order g c =
    let k = c.args.checked.now in
    let f = none_faultless (g.C.Catalogue.meaning k.catalogue.now) k.sheet.now k.faultless in
    rw c.from.ensures f.few_places

pub returns : goal.returns
unfolding positions_in
returns g c =
    let k = c.args.checked.now in
    let m = g.C.Catalogue.meaning k.catalogue.now in
    filled _ _ most_places (λ i. position_in m (place_at (order_of k.sheet.now) (suc i))) (λ i y q low k. search rules) c.from_fn.result no_position c.from_fn.ensures.items
