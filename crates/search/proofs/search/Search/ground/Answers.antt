use Rattle.std.proofs.Common.{◌≡◌, ◌-◌, ◌<◌, ◌≤◌, [], get_or, ap, ◌∙◌, arith}
use Rattle.ledger.specs.Model.{held}
use Rattle.search.specs.States.{chosen_from}
use Rattle.search.proofs.Standing.{ledger_start, ledger_learned}
use Rattle.search.proofs.search.Search.ground.Goals as goal

pub returns-then-index-last-clause-lines : goal.returns-then-index-last-clause-lines
returns-then-index-last-clause-lines c =
    let s = c.args.self.now in
    let low : c.args.index ≤ s.grid.last_row = omega (arith, c.last_row-last.ensures.is) in
    c.starting_line.ensures ∙ ledger_start (chosen_from s) (held s.ledger) c.args.index low

pub returns-else-index-last-clause-lines : goal.returns-else-index-last-clause-lines
returns-else-index-last-clause-lines c =
    let s = c.args.self.now in
    let is : c.last_row-last.result ≡ s.grid.last_row = c.last_row-last.ensures.is in
    let high : s.grid.last_row < c.args.index = omega arith in
    c.ground.ensures.lines ∙ ap (λ k. get_or (held s.ledger) (c.args.index - k - 1) []) is ∙ ledger_learned (chosen_from s) (held s.ledger) c.args.index high
