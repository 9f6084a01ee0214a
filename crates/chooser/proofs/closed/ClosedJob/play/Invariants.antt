use Rattle.std.proofs.Common.{◌≡◌}
use Rattle.rules.specs.Settings.{setting}
use Rattle.chooser.specs.States.{kept_of}
use Rattle.chooser.proofs.Plays.{Underway}
use Rattle.chooser.proofs.closed.ClosedJob.play.Given as goal

abbrev pub invariant-loop-record : goal.invariant-loop-record
invariant-loop-record g l =
    let j = l.fn.self.job in
    record {
      same_sheet : l.job.sheet ≡ j.sheet;
      same_catalogue : l.job.catalogue ≡ j.catalogue;
      underway : Underway (setting (g.C.Catalogue.meaning j.catalogue) j.sheet) (kept_of j) l.fn.records l.record-index l.records (kept_of l.job);
    }
