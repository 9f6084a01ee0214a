use Rattle.rules.proofs.Rights.{ground_law}
use Rattle.rules.proofs.laws.ground_law.Goals as goal

pub returns : goal.returns
returns c = ground_law
