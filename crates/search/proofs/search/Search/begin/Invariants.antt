use Rattle.std.proofs.Common.{◌≡◌, ◌≤◌, replicate}
use Rattle.rules.specs.Bounds.{most_places}
use Rattle.search.specs.States.{SameBut}
use Rattle.search.proofs.search.Search.begin.Given as goal

abbrev pub invariant-loop-index : goal.invariant-loop-index
invariant-loop-index l =
    record {
      versions : l.self.part.versions ≡ replicate most_places 1;
      opened : l.self.part.opened ≡ l.index;
      kept : SameBut l.self l.initial.self;
      low : l.index ≤ l.self.grid.places;
    }
