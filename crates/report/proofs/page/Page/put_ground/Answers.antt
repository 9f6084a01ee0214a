use Rattle.report.specs.Reports.{closing_line}
use Rattle.report.proofs.Putting.{one_more_put}
use Rattle.report.proofs.page.Page.put_ground.Goals as goal

pub loop-line-preserved : goal.loop-line-preserved
loop-line-preserved c =
    one_more_put closing_line c.as_slice-line-items.result.now c.loop-line.line-index _ c.loop-line-test.true c.loop-line.invariant c.put_closing_line.ensures
