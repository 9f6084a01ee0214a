use Rattle.jobfile.proofs.ReadLaw.{read_law}
use Rattle.jobfile.proofs.laws.read_law.Goals as goal

pub returns : goal.returns
returns c = read_law
