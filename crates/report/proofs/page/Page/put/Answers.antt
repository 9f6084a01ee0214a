use Rattle.std.proofs.Common.{arith}
use Rattle.std.proofs.lemmas.Grind.{common_steps}
use Rattle.report.proofs.Fitting.{put_fits, still_fits}
use Rattle.report.proofs.page.Page.put.Goals as goal

pub invariant_of-self : goal.invariant_of-self
invariant_of-self c =
    let e = put_fits c.args.self.now.bytes.items c.args.word.now c.remaining_capacity.result c.min-length.result c.remaining_capacity.ensures c.min-length.ensures in
    let f = c.args.self.now.fits in
    grind (arith, common_steps, still_fits, e, f, c.try_extend_from_slice.ensures)

pub returns : goal.returns
returns c =
    let e = put_fits c.args.self.now.bytes.items c.args.word.now c.remaining_capacity.result c.min-length.result c.remaining_capacity.ensures c.min-length.ensures in
    record { text_is = grind (arith, common_steps, e) }
