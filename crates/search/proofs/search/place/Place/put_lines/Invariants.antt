use Rattle.std.proofs.Common.{◌≡◌, map, drop}
use Rattle.rules.specs.Grounds.{with_lines}
use Rattle.ledger.specs.Drafted.{drafted}
use Rattle.search.specs.States.{chosen_from, moved_with}
use Rattle.search.proofs.search.place.Place.put_lines.Given as goal

abbrev pub invariant-loop-line : goal.invariant-loop-line
invariant-loop-line l =
    let S = chosen_from l.self.search.now in
    with_lines S (map (moved_with S l.pick) l.ground) (drafted l.initial.draft) ≡ with_lines S (map (moved_with S l.pick) (drop l.line-index l.ground)) (drafted l.draft)
