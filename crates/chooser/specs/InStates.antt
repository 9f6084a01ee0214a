-- A job in the type of its state. Assumes nothing.
use Rattle.chooser.specs.declared.job.Job.{Job}
use Rattle.chooser.specs.declared.job.states.State.{State}
use Rattle.chooser.specs.declared.job.states.State.TheVariants.{Closed, Running}

-- The job that it is.
abbrev pub job_in : {D : Type 0} {g : _} → State D g → Job D g
job_in (Closed j) = j.job
job_in (Running j) = j.job
