use Rattle.jobfile.proofs.ReadLaw.{longest_law}
use Rattle.jobfile.proofs.laws.longest_law.Goals as goal

pub returns : goal.returns
returns c = longest_law
