use Rattle.std.proofs.Common.{◌++◌, codes, decimal}
use Rattle.report.proofs.Putting.{one_more_put}
use Rattle.report.proofs.page.Page.put_versions.Goals as goal

pub loop-version-preserved : goal.loop-version-preserved
loop-version-preserved c =
    one_more_put (λ v. codes " " ++ decimal v) c.args.versions.now c.loop-version.version-index 0 c.loop-version-test.true c.loop-version.invariant c.put_number.ensures
