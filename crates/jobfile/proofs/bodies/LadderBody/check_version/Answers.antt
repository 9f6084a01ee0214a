use Rattle.std.proofs.Common.{rules}
use Rattle.jobfile.specs.Bodies.{amount_of}
use Rattle.jobfile.proofs.bodies.LadderBody.check_version.Goals as goal

pub returns : goal.returns
returns c =
    c.check_amounts.ensures (amount_of c.args.self.now c.args.version) (λ row z l k. search rules)
