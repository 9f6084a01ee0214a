use Rattle.jobfile.proofs.MetRefusals.{refused_law}
use Rattle.jobfile.proofs.laws.refused_law.Goals as goal

pub returns : goal.returns
returns c = refused_law
