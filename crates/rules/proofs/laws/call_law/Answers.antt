use Rattle.rules.proofs.Replies.{call_law}
use Rattle.rules.proofs.laws.call_law.Goals as goal

pub returns : goal.returns
returns c = call_law
