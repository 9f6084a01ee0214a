use Rattle.rules.proofs.Merging.{learning_law}
use Rattle.rules.proofs.laws.learning_law.Goals as goal

pub returns : goal.returns
returns c = learning_law
