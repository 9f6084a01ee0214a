use Rattle.std.proofs.Common.{◌≡◌}
use Rattle.chooser.specs.States.{kept_of}
use Rattle.report.proofs.CallLoops.{Along}
use Rattle.report.proofs.page.Page.put_calls.Given as goal

abbrev pub invariant-loop-index : goal.invariant-loop-index
invariant-loop-index g l =
    record {
      sheet : l.job.sheet ≡ l.fn.job.sheet;
      catalogue : l.job.catalogue ≡ l.fn.job.catalogue;
      along : Along (g.C.Catalogue.meaning l.fn.job.catalogue) l.fn.job.sheet (kept_of l.fn.job) l.fn.records l.fn.self (kept_of l.job) l.index l.records l.self;
    }
