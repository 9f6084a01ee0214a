use Rattle.std.proofs.Common.{codes}
use Rattle.report.proofs.Putting.{both_put, then_number}
use Rattle.report.proofs.page.Page.put_job.Goals as goal

pub returns : goal.returns
returns c = both_put (then_number (codes " ") _ c.put_number.ensures c.put_number-2.ensures) c.put.ensures
