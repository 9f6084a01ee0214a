use Rattle.std.proofs.Common.{[], None, ap, ◌∙◌}
use Rattle.rules.specs.Calls.{closed}
use Rattle.rules.specs.KeptJobs.{faultless, opened_with}
use Rattle.chooser.proofs.job.opens.opened_in.Goals as goal

pub returns-clause-job : goal.returns-clause-job
returns-clause-job g c =
    ap faultless (c.new.ensures.job ∙ ap (λ L. closed L [] None) c.limits_in.ensures) ∙ ap (opened_with c.args.sheet) c.in_ok-checked.ensures.told
