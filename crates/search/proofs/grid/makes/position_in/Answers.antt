use Rattle.std.proofs.Common.{◌≡◌, suc, ap₂, rules}
use Rattle.rules.specs.Bounds.{most_versions}
use Rattle.rules.specs.Settings.{versions_in}
use Rattle.rules.proofs.Filled.{filled}
use Rattle.search.specs.Tables.{no_amounts}
use Rattle.search.specs.Made.{amounts_in, position_in}
use Rattle.search.specs.declared.position.Position.{Position}
use Rattle.search.proofs.grid.makes.position_in.Goals as goal

pub returns : goal.returns
unfolding position_in
returns g c =
    let m = g.C.Catalogue.meaning c.args.checked.now.catalogue.now in
    let count : c.unwrap_or.result ≡ versions_in m c.args.place = search rules in
    ap₂ {C = Position} (λ n vs. record { count = n; versions = vs }) count (filled _ _ most_versions (λ j. amounts_in m c.args.place (suc j)) (λ i y q low k. search rules) c.from_fn.result no_amounts c.from_fn.ensures.items)
