use Rattle.rules.proofs.Replies.{history_law}
use Rattle.rules.proofs.laws.history_law.Goals as goal

pub returns : goal.returns
returns c = history_law
