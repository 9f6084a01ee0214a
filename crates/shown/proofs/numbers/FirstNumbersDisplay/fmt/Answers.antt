use Rattle.std.proofs.Common.{rules, sym}
use Rattle.std.proofs.lemmas.Iterator.{YieldsList-from_slice, YieldsList-from_take}
use Rattle.std.proofs.lemmas.Iterator.Consumers.{YieldsList-end}
use Rattle.shown.proofs.numbers.FirstNumbersDisplay.fmt.Goals as goal

pub returns-clause-writes : goal.returns-clause-writes
returns-clause-writes g c plain ok =
    let text = c.args.self.now in
    let gives = YieldsList-from_take text.count (YieldsList-from_slice text.table.now (search rules)) (search rules) in
    let all = YieldsList-end gives c.loop-number.yielded _ c.loop-number.yielded_by _ _ c.in-None.is c.next.ensures.steps in
    rw (sym all.0) (c.loop-number.invariant plain)
