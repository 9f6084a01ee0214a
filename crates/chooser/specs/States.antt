-- Jobs as they are kept. Assumes nothing.
use Rattle.rules.specs.KeptJobs.{KeptJob}
use Rattle.chooser.specs.Models.{kept}
use Rattle.chooser.specs.declared.job.Job.{Job}

-- The job as it is kept.
abbrev pub kept_of : {D : Type 0} {g : _} → Job D g → KeptJob
kept_of j = kept j.running j.opened
