use Rattle.std.proofs.Common.{◌≡◌, take}
use Rattle.report.specs.FileReports.{unanswered}
use Rattle.report.proofs.files.unanswered.Given as goal

abbrev pub invariant-loop-call : goal.invariant-loop-call
invariant-loop-call l = l.records.items ≡ unanswered (take l.call-index l.calls)
