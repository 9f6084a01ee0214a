use Rattle.std.proofs.Common.{take, ap, sym, ◌∙◌, arith, length-take}
use Rattle.rules.specs.Search.{line_count}
use Rattle.ledger.specs.Model.{held}
use Rattle.rules.proofs.Invariant.{line_count_push}
use Rattle.ledger.proofs.Cuts.{room_fits}
use Rattle.ledger.proofs.table.Ledger.push.Goals as goal

pub put_line-requires-clause-room : goal.put_line-requires-clause-room
put_line-requires-clause-room c =
    let old = held c.args.self.now in
    let g = c.args.ground.now in
    let so_far = ap line_count c.loop-line.invariant ∙ line_count_push old (take c.loop-line.line-index g) in
    omega (arith, so_far, length-take c.loop-line.line-index g, room_fits old g (sym c.has_room.ensures ∙ c.if-not-has_room.false))
