use Rattle.rules.proofs.Replies.{step_law}
use Rattle.rules.proofs.laws.step_law.Goals as goal

pub returns : goal.returns
returns c = step_law
