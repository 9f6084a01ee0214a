use Rattle.report.proofs.ReportLengths.{report_law}
use Rattle.report.proofs.laws.report_law.Goals as goal

pub returns : goal.returns
returns c = report_law
