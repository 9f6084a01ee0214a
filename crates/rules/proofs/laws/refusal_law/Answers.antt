use Rattle.rules.proofs.Replies.{refusal_law}
use Rattle.rules.proofs.laws.refusal_law.Goals as goal

pub returns : goal.returns
returns c = refusal_law
