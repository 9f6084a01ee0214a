use Rattle.std.proofs.Common.{flat_map, take}
use Rattle.report.specs.Reports.{closing_line}
use Rattle.report.specs.Writing.{Puts}
use Rattle.report.proofs.page.Page.put_ground.Given as goal

abbrev pub invariant-loop-line : goal.invariant-loop-line
invariant-loop-line l = Puts l.fn.self (flat_map closing_line (take l.line-index l.line-items)) l.self
