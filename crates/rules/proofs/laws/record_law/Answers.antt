use Rattle.rules.proofs.Works.{record_law}
use Rattle.rules.proofs.laws.record_law.Goals as goal

pub returns : goal.returns
returns c = record_law
