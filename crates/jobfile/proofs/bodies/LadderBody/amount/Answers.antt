use Rattle.std.proofs.Common.{◌≡◌, suc, get_or, ap, ◌∙◌, arith, rules, w64, to_z, of_z}
use borrow.Author.Differences.{ints}
use Rattle.rules.specs.Catalogues.{rung}
use Rattle.jobfile.proofs.Rungs.{rung_amount_at}
use Rattle.jobfile.proofs.bodies.LadderBody.amount.Goals as goal

pub returns : goal.returns
returns c =
    let gs = c.args.self.now.rungs in
    let g = c.index-self-from.result in
    let fits : to_z w64 (of_z w64 c.at.result) ≡ c.at.result = omega (arith, ints) in
    let is : c.at.result ≡ rung g.base g.step c.args.version = search rules in
    let here = c.index-self-from.is ∙ ap (λ i. get_or gs i g) c.from.ensures in
    fits ∙ is ∙ rung_amount_at (suc c.args.self.now.last_row) c.args.row c.args.version gs g (omega arith) (omega arith) here
