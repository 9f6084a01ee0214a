-- Jobs in memory as jobs of the rules. Assumes nothing.
use Rattle.std.specs.Prelude.{ℕ, Bool, true, false, Some, None, Ok, Err, Result}
use Rattle.std.specs.Option.{option_map}
use Rattle.rules.specs.declared.refusals.Fault.{Fault}
use Rattle.rules.specs.declared.refusals.Refusal.{Refusal}
use Rattle.rules.specs.Refusals.{fault}
use Rattle.rules.specs.Grounds.{Setting}
use Rattle.rules.specs.Calls.{Answer, taken, ran, refused, Job, closed}
use Rattle.rules.specs.KeptJobs.{KeptJob, faulty, faultless, fault_of}
use Rattle.ledger.specs.Model.{held}
use Rattle.search.specs.States.{job_limits, chosen_from}
use Rattle.search.specs.Runs.{running_of, why_of}
use Rattle.search.specs.Findings.{verdict_of}
use Rattle.search.specs.declared.found.Ran.{Ran}
use Rattle.chooser.specs.declared.opened.Made.{Made}
use Rattle.chooser.specs.declared.opened.Made.TheVariants as made
use Rattle.chooser.specs.declared.opened.Opened.{Opened}

-- The job while it is closed.
abbrev pub closed_of : Opened → Job
closed_of o = closed (job_limits o.search) (held o.search.ledger) (option_map (verdict_of o.search) o.verdict)

-- The job while a search is running.
abbrev pub searched_of : Opened → Job
searched_of o = running_of o.search

-- The job, of which it is said whether a search is running.
abbrev pub job_of : Bool → Opened → Job
job_of false o = closed_of o
job_of true o = searched_of o

-- A job as it is kept.
abbrev pub kept : Bool → Result Opened Fault → KeptJob
kept running (Ok o) = faultless (job_of running o)
kept running (Err f) = faulty f

-- The setting that a job has in its tables; with a fault it has none, and the one given stands for it.
abbrev pub setting_in : Setting → Result Opened Fault → Setting
setting_in S (Ok o) = chosen_from o.search
setting_in S (Err f) = S

-- What a call answers that is taken or refused.
abbrev pub taken_or : Result (Unit {0}) Refusal → Answer
taken_or (Ok u) = taken
taken_or (Err e) = refused e

-- What a call answers.
abbrev pub made_answer : Result Made Refusal → Answer
made_answer (Ok made.Done) = taken
made_answer (Ok (made.Ran r)) = ran (why_of r.why) r.made
made_answer (Err e) = refused e

-- What is told of a call.
abbrev pub made_told : Result Made Fault → Result Answer Fault
made_told (Ok made.Done) = Ok taken
made_told (Ok (made.Ran r)) = Ok (ran (why_of r.why) r.made)
made_told (Err f) = Err f

-- What is told of a run.
abbrev pub ran_told : Result Ran Fault → Result Answer Fault
ran_told (Ok r) = Ok (ran (why_of r.why) r.made)
ran_told (Err f) = Err f

-- What is told without what a run came to.
abbrev pub bare : Result Answer Fault → Result (Unit {0}) Fault
bare (Ok a) = Ok tt
bare (Err f) = Err f

-- The fault of a job, or that of a refusal where it has none.
abbrev pub fault_or : KeptJob → Refusal → Fault
fault_or k e = elim (fault_of k) [ Some f ↦ f | None ↦ fault e ]

-- The number that a record is given for what its call was told.
abbrev pub number_told : Result Made Fault → ℕ
number_told (Ok m) = 0
number_told (Err f) = f.number
