use Rattle.std.proofs.Common.{arith}
use Rattle.report.proofs.Fitting.{fitting_all}
use Rattle.report.proofs.page.Page.blank.Goals as goal

pub invariant_of-result : goal.invariant_of-result
invariant_of-result c = record { fits = fitting_all c.new.result.items (search arith) }
