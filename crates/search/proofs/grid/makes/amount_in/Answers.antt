use Rattle.std.proofs.Common.{◌≡◌, ◌∙◌, arith, rules, w32, w64, to_z, of_z}
use borrow.Author.Differences.{ints}
use Rattle.rules.specs.Settings.{amount_in}
use Rattle.rules.proofs.OpeningTests.{none_faultless}
use Rattle.search.proofs.Grids.{amount_near}
use Rattle.search.proofs.grid.makes.amount_in.Goals as goal

pub overflow_cast-result : goal.overflow_cast-result
overflow_cast-result g c =
    let k = c.args.checked.now in
    let m = g.C.Catalogue.meaning k.catalogue.now in
    let near = amount_near m (g.met.C.Catalogue.sound k.catalogue.now) k.sheet.now (none_faultless m k.sheet.now k.faultless) c.args.row c.args.place c.args.version in
    let is : c.unwrap_or.result ≡ amount_in m c.args.row c.args.place c.args.version = search rules in
    omega (arith, ints, near, is)

pub returns : goal.returns
returns g c =
    let k = c.args.checked.now in
    let m = g.C.Catalogue.meaning k.catalogue.now in
    let near = amount_near m (g.met.C.Catalogue.sound k.catalogue.now) k.sheet.now (none_faultless m k.sheet.now k.faultless) c.args.row c.args.place c.args.version in
    let is : c.unwrap_or.result ≡ amount_in m c.args.row c.args.place c.args.version = search rules in
    let fits : to_z w64 (of_z w64 c.unwrap_or.result) ≡ c.unwrap_or.result = omega (arith, ints, near, is) in
    let small : to_z w32 (of_z w32 c.unwrap_or.result) ≡ c.unwrap_or.result = omega (arith, ints, near, is) in
    rw fits (small ∙ is)
