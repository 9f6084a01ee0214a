use Rattle.report.proofs.Putting.{both_put}
use Rattle.report.proofs.page.Page.put_call.Goals as goal

pub returns : goal.returns
returns c = both_put (both_put (both_put c.put_number.ensures c.put.ensures) c.put_answer.ensures) c.put-2.ensures
