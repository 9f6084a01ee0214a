-- What a run comes to, by the rules. Assumes nothing.
use Rattle.std.specs.Prelude.{ℕ, ◌+◌, Ok, Err, Result}
use Rattle.rules.specs.declared.refusals.Refusal.{Refusal}
use Rattle.rules.specs.Search.{State}
use Rattle.rules.specs.Calls as calls
use Rattle.rules.specs.Calls.{Answer, ran, refused, Job, running}
use Rattle.search.specs.States.{job_limits, state_of}
use Rattle.search.specs.declared.search.Search.{Search}
use Rattle.search.specs.declared.found.Why.{Why}
use Rattle.search.specs.declared.found.Why.TheVariants.{HasEnded, IsFull, BudgetUsed}
use Rattle.search.specs.declared.found.Ran.{Ran}

-- Why a run stopped.
abbrev pub why_of : Why → calls.Why
why_of HasEnded = calls.has_ended
why_of IsFull = calls.is_full
why_of BudgetUsed = calls.budget_used

-- What a run came to, with the state that it led to.
abbrev pub ran_of : Ran → State → calls.Ran
ran_of r σ = record { reason = why_of r.why; made = r.made; state = σ }

-- The same run with so many steps more made before it.
abbrev pub after_steps : ℕ → calls.Ran → calls.Ran
after_steps k r = record { reason = r.reason; made = k + r.made; state = r.state }

-- The job that a search is in.
abbrev pub running_of : Search → Job
running_of s = running (job_limits s) (state_of s)

-- What a run answers.
abbrev pub run_answer : Result Ran Refusal → Answer
run_answer (Ok r) = ran (why_of r.why) r.made
run_answer (Err e) = refused e
