use Rattle.rules.proofs.PartChoices.{count_law}
use Rattle.rules.proofs.laws.count_law.Goals as goal

pub returns : goal.returns
returns c = count_law
