use Rattle.std.proofs.Common.{◌≡◌, length, sym, subst, arith}
use Rattle.rules.specs.Bounds.{greatest_row}
use Rattle.rules.proofs.OpeningTests.{none_faultless}
use Rattle.search.proofs.Grids.{Good, good, priced, joinings, counts, amounts, same_setting}
use Rattle.search.proofs.grid.Grid.of.Goals as goal

pub invariant_of-result : goal.invariant_of-result
invariant_of-result g c =
    let k = c.args.checked.now in
    let s = k.sheet.now in
    let m = g.C.Catalogue.meaning k.catalogue.now in
    let f = none_faultless m s k.faultless in
    let long : length s.rows ≡ greatest_row = omega arith in
    let t : Good c.positions_in.result = subst Good (sym c.positions_in.ensures) (good m (g.met.C.Catalogue.sound k.catalogue.now) s f) in
    record {
      few_places = rw c.from.ensures f.few_places;
      few_rows = rw c.from-2.ensures f.few_rows;
      priced = rw c.kinds_in.ensures (priced s long);
      whole = t.whole;
      counted = t.counted;
      long = t.long;
      wide = t.wide;
      near = t.near;
    }

pub returns : goal.returns
returns g c =
    let k = c.args.checked.now in
    let s = k.sheet.now in
    let m = g.C.Catalogue.meaning k.catalogue.now in
    let w = g.met.C.Catalogue.sound k.catalogue.now in
    let f = none_faultless m s k.faultless in
    let long : length s.rows ≡ greatest_row = omega arith in
    rw (c.kinds_in.ensures, c.positions_in.ensures) (same_setting c.from.ensures c.from-2.ensures (joinings s long) (counts m w s f) (amounts m w s f))
