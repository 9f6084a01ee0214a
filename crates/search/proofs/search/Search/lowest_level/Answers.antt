use Rattle.std.proofs.Common.{◌≡◌, ◌-◌, ◌<◌, ◌≤◌, [], get_or, sym, ap, ◌∙◌, arith}
use Rattle.std.proofs.Math.Nat.{zero-min}
use Rattle.rules.specs.Bounds.{most_places}
use Rattle.ledger.specs.Model.{held}
use Rattle.ledger.specs.Tables.{lowest_level}
use Rattle.search.specs.States.{chosen_from}
use Rattle.search.proofs.Standing.{ledger_start, ledger_learned}
use Rattle.search.proofs.search.Search.lowest_level.Goals as goal

pub returns-then-index-last : goal.returns-then-index-last
returns-then-index-last c =
    let s = c.args.self.now in
    let low : c.args.index ≤ s.grid.last_row = omega (arith, c.last_row-last.ensures.is) in
    sym (zero-min most_places) ∙ ap lowest_level (ledger_start (chosen_from s) (held s.ledger) c.args.index low)

pub returns-else-index-last : goal.returns-else-index-last
returns-else-index-last c =
    let s = c.args.self.now in
    let is : c.last_row-last.result ≡ s.grid.last_row = c.last_row-last.ensures.is in
    let high : s.grid.last_row < c.args.index = omega arith in
    c.from.ensures ∙ c.lowest_level.ensures
    ∙ ap (λ k. lowest_level (get_or (held s.ledger) (c.args.index - k - 1) [])) is
    ∙ ap lowest_level (ledger_learned (chosen_from s) (held s.ledger) c.args.index high)
