use Rattle.std.proofs.Common.{arith}
use Rattle.ledger.specs.Model.{held}
use Rattle.search.specs.States.{chosen_from}
use Rattle.search.proofs.Standing.{ledger_length}
use Rattle.search.proofs.search.Search.ground_count.Goals as goal

pub returns : goal.returns
returns c =
    let s = c.args.self.now in
    omega (arith, ledger_length (chosen_from s) (held s.ledger), c.last_row.ensures.is, c.count.ensures.is)
