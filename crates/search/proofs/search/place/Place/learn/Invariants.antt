use Rattle.std.proofs.Common.{◌≡◌, ◌+◌, ◌-◌, ◌≤◌}
use Rattle.rules.specs.Grounds.{learned_up_to}
use Rattle.ledger.specs.Drafted.{drafted}
use Rattle.search.specs.States.{chosen_from, pick_of}
use Rattle.search.specs.Trials.{above_place}
use Rattle.search.proofs.search.place.Place.learn.Given as goal

abbrev pub invariant-loop-version : goal.invariant-loop-version
invariant-loop-version l =
    let s = l.self.search.now in
    record {
      below : drafted l.draft ≡ learned_up_to (chosen_from s) (above_place l.self) (pick_of s (above_place l.self)) (l.version - 1);
      last : l.version ≤ l.version-end + 1;
    }
