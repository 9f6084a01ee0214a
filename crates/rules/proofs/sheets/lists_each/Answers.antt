use Rattle.std.proofs.Common.{rules}
use Rattle.rules.proofs.Ranges.{all_over}
use Rattle.rules.proofs.Counted.{all_counted, lists}
use Rattle.rules.proofs.sheets.lists_each.Goals as goal

pub returns : goal.returns
returns c =
    let xs = c.args.order.now in
    all_counted c.args.places xs _
    (all_over _ _ _ 1 c.args.places (lists xs) _ c.new.ensures.start c.new.ensures.end c.new.ensures.exhausted (λ k b f h. search rules) c.all.ensures.runs)
