use Rattle.std.proofs.Common.{◌++◌, subst}
use Rattle.report.specs.Writing.{Puts}
use Rattle.report.proofs.Putting.{both_put}
use Rattle.report.proofs.page.Page.put_number.Goals as goal

pub returns : goal.returns
returns g c = subst (λ t. Puts c.args.self.now (c.args.word.now ++ t) c.put-2.new.self) c.format.ensures.text (both_put c.put.ensures c.put-2.ensures)
