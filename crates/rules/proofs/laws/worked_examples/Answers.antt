use Rattle.rules.proofs.WorkedExamples.{examples_hold}
use Rattle.rules.proofs.laws.worked_examples.Goals as goal

pub returns : goal.returns
returns c = examples_hold
