use Rattle.report.proofs.WorkedReports.{reports_hold}
use Rattle.report.proofs.laws.worked_report.Goals as goal

pub returns : goal.returns
returns c = reports_hold
