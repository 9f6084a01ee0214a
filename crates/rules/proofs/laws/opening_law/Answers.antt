use Rattle.rules.proofs.FirstFaults.{opening_law}
use Rattle.rules.proofs.laws.opening_law.Goals as goal

pub returns : goal.returns
returns c = opening_law
