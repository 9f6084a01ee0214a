use Rattle.std.proofs.Common.{◌≡◌, ◌∙◌, arith, w64, to_z, of_z}
use borrow.Author.Differences.{ints}
use Rattle.rules.specs.Choices.{version}
use Rattle.joining.proofs.Nears.{amount_near, amounts, joined_more}
use Rattle.joining.proofs.totals.total.Goals as goal

pub loop-index-preserved : goal.loop-index-preserved
loop-index-preserved g c =
    let m = g.C.Catalogue.meaning c.args.catalogue.now in
    let out : to_z w64 (of_z w64 c.join-total.result) ≡ c.join-total.result = omega (arith, ints) in
    let read : to_z w64 (of_z w64 c.amount_at.result) ≡ c.amount_at.result = omega (arith, ints) in
    out ∙ c.join-total.ensures
    ∙ joined_more g.J.Joining.rule g.met.J.Joining.kept (amounts m c.args.row c.args.versions.now) (λ q. amount_near m (g.met.C.Catalogue.sound c.args.catalogue.now) c.args.row q (version c.args.versions.now q)) c.loop-index.index _ _ (omega arith) c.loop-index.invariant (read ∙ c.amount_at.ensures)
