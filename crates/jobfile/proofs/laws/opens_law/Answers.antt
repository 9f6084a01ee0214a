use Rattle.jobfile.proofs.OpensWell.{opens_law}
use Rattle.jobfile.proofs.laws.opens_law.Goals as goal

pub returns : goal.returns
returns c = opens_law
