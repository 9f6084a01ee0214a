use Rattle.chooser.proofs.Comings.{came_first}
use Rattle.chooser.proofs.job.Job.open.Goals as goal

pub invariant_of-result : goal.invariant_of-result
invariant_of-result g c =
    let o = c.opened_in-opened in
    record { seen = o.ensures.seen; came = came_first (g.C.Catalogue.meaning c.args.catalogue) (g.met.C.Catalogue.sound c.args.catalogue) c.args.sheet _ o.ensures.job }
