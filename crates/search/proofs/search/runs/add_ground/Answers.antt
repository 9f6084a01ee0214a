use Rattle.std.proofs.Common.{ap, ◌∙◌}
use Rattle.std.proofs.lemmas.Bool.{cond-true}
use Rattle.ledger.specs.Model.{held}
use Rattle.ledger.specs.Answers.{push_answer}
use Rattle.ledger.proofs.Nears.{since_all_near}
use Rattle.search.proofs.search.runs.add_ground.Goals as goal

pub unreachable-requires : goal.unreachable-requires
unreachable-requires c =
    c.in_default.not-Ok tt
    (c.push.ensures.told ∙ ap (push_answer (held c.args.ledger.now)) c.lines.ensures ∙ cond-true _ _ _ c.requires
    ∙ cond-true _ _ _ (since_all_near _ c.args.draft.now.near))
