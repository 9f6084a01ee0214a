use Rattle.std.proofs.Common.{◌≡◌, ◌+◌, ◌-◌, ◌≤◌}
use Rattle.rules.specs.Bounds.{most_steps}
use Rattle.rules.specs.Calls.{run_from}
use Rattle.search.specs.States.{chosen_from, job_limits, state_of, SameJob}
use Rattle.search.specs.Runs.{after_steps}
use Rattle.search.proofs.search.Search.run_on.Given as goal

abbrev pub invariant-loop-step : goal.invariant-loop-step
invariant-loop-step l =
    let s = l.initial.self in
    record {
      within : l.made ≤ l.budget;
      few : l.self.steps + l.budget ≤ most_steps + l.made;
      kept : SameJob l.self s;
      ran : run_from (chosen_from s) (job_limits s) l.budget (state_of s) ≡ after_steps l.made (run_from (chosen_from s) (job_limits s) (l.budget - l.made) (state_of l.self));
    }

abbrev pub decreases-loop-step : goal.decreases-loop-step
decreases-loop-step l = l.budget - l.made
