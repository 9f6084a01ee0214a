use Rattle.rules.proofs.Rights.{promise_law}
use Rattle.rules.proofs.laws.promise_law.Goals as goal

pub returns : goal.returns
returns c = promise_law
