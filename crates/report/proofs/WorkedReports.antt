-- The worked reports, computed. Assumes nothing.
use Rattle.std.proofs.Common.{refl}
use Rattle.std.specs.Fmt.{digits}
use Rattle.rules.specs.Openings.{opening}
use Rattle.rules.specs.Grounds.{learn_from}
use Rattle.rules.specs.Search.{next}
use Rattle.rules.specs.Calls.{reply}
use Rattle.rules.specs.Records.{asked}
use Rattle.report.specs.Examples.{ReportsHold}

pub reports_hold : ReportsHold
unfolding digits opening learn_from next reply asked
reports_hold = (refl, (refl, tt))
