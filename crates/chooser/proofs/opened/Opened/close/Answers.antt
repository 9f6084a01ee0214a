use Rattle.std.proofs.Common.{Some, ap}
use Rattle.ledger.specs.Model.{held}
use Rattle.rules.specs.Calls.{Verdict, closed}
use Rattle.search.specs.States.{job_limits}
use Rattle.chooser.proofs.opened.Opened.close.Goals as goal

pub returns-clause-job : goal.returns-clause-job
unfolding Rattle.rules.specs.Calls.reply
returns-clause-job c =
    let s = c.args.self.now.search in
    ap (λ (v : Verdict). closed (job_limits s) (held s.ledger) (Some v)) (c.verdict.ensures.whole c.args.self.now.shaped)
