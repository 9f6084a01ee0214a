use Rattle.std.proofs.Common.{refl}
use Rattle.chooser.specs.Requests.{call_of, turned}
use Rattle.search.specs.States.{chosen_from}
use Rattle.chooser.specs.Models.{job_of}
use Rattle.chooser.proofs.Comings.{goes_on, in_opened, in_faulty}
use Rattle.chooser.proofs.job.Job.make.Goals as goal

pub invariant_of-self : goal.invariant_of-self
invariant_of-self g c =
    let j = c.args.self.now in
    let m = g.C.Catalogue.meaning j.catalogue in
    let before = c.in-Ok.opened in
    let after = c.make.new.self in
    let kept =
    goes_on m j.sheet (call_of c.args.call) (job_of j.running before) (job_of (turned j.running (call_of c.args.call)) after) (chosen_from before.search) (chosen_from after.search)
    c.make.ensures.grid c.make.ensures.job (in_opened m j.sheet j.running _ before c.in-Ok.is (j.seen, j.came))
    in
    record { seen = kept.0; came = rw c.turned-self.ensures kept.1 }

pub invariant_of-self-in-Err : goal.invariant_of-self-in-Err
invariant_of-self-in-Err g c =
    let j = c.args.self.now in
    record { seen = refl; came = in_faulty (g.C.Catalogue.meaning j.catalogue) j.sheet j.running _ _ c.in-Err.is j.came }
