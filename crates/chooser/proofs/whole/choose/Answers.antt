use Rattle.std.proofs.Common.{ap}
use Rattle.chooser.specs.States.{kept_of}
use Rattle.chooser.proofs.Plays.{lawful_opened}
use Rattle.chooser.proofs.whole.choose.Goals as goal

pub returns-clause-lawful : goal.returns-clause-lawful
returns-clause-lawful g c =
    let x = c.args.catalogue in
    let o = c.open in
    lawful_opened (g.C.Catalogue.meaning x) (g.C.Catalogue.meaning o.result.job.catalogue) c.args.sheet o.result.job.sheet (kept_of o.result.job) c.play.new.records (kept_of c.play.result.job)
    (g.met.C.Catalogue.sound x) (ap g.C.Catalogue.meaning o.ensures.catalogue) o.ensures.sheet o.ensures.job c.play.ensures.lawful
