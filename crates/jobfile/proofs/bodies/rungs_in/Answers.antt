use Rattle.std.proofs.Common.{rules}
use Rattle.jobfile.proofs.Rungs.{rungs_made}
use Rattle.jobfile.proofs.bodies.rungs_in.Goals as goal

pub returns : goal.returns
returns c = λ m l. rungs_made _ _ c.args.body.now (λ r y q small k. search rules) c.from_fn.result m l c.from_fn.ensures.items
