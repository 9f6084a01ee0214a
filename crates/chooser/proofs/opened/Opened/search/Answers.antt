use Rattle.std.proofs.Common.{ap, ◌∙◌}
use Rattle.rules.specs.Calls.{running}
use Rattle.search.specs.States.{limits_of, job_limits, state_of}
use Rattle.chooser.proofs.opened.Opened.search.Goals as goal

pub returns-clause-job : goal.returns-clause-job
unfolding Rattle.rules.specs.Calls.reply
returns-clause-job c = ap (λ l. running (limits_of l) (state_of c.begin.new.self)) c.begin.ensures.kept.1 ∙ ap (running (job_limits c.args.self.now.search)) c.begin.ensures.state
