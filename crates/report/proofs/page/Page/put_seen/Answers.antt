use Rattle.std.proofs.Common.{codes}
use Rattle.report.proofs.Putting.{both_put, then_number}
use Rattle.report.proofs.page.Page.put_seen.Goals as goal

pub returns : goal.returns
returns c = λ m s priced.
    let told = c.put_told.ensures m s priced in
    both_put (both_put (then_number (codes " GROUNDS ") _ (then_number (codes " STEPS ") _ told c.put_number.ensures) c.put_number-2.ensures) c.put.ensures) c.put_told_ground.ensures
