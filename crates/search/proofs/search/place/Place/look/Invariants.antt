use Rattle.std.proofs.Common.{◌≡◌, ◌+◌, ◌-◌, ◌≤◌, drop, length, None}
use Rattle.rules.specs.Bounds.{most_versions}
use Rattle.rules.specs.Search.{lowest_free}
use Rattle.search.specs.States.{chosen_from, job_limits, grounds, state_of}
use Rattle.search.specs.Looks.{StoodTo}
use Rattle.search.specs.Trials.{first_at, above_place}
use Rattle.search.proofs.search.place.Place.look.Given as goal

abbrev pub invariant-grounds : goal.invariant-grounds
invariant-grounds l =
    let gs = grounds l.trial.search.now in
    record {
      passed : first_at l.trial gs ≡ first_at l.trial (drop l.ground gs);
      long : length l.stopped ≡ most_versions;
      stood : StoodTo l.self.search.now (above_place l.self) (l.version - 1) l.stopped;
    }

abbrev pub invariant-versions : goal.invariant-versions
invariant-versions l =
    let s = l.self.search.now in
    record {
      below : lowest_free (chosen_from s) (job_limits s) (state_of s) (above_place l.self) (l.version - 1) ≡ None;
      last : l.version ≤ l.version-end + 1;
      long : length l.stopped ≡ most_versions;
      stood : StoodTo s (above_place l.self) (l.version - 1) l.stopped;
    }
