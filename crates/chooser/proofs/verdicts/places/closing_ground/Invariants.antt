use Rattle.std.proofs.Common.{◌≡◌, take}
use Rattle.rules.specs.Settings.{closing_lines}
use Rattle.search.specs.Closings.{closing_of}
use Rattle.chooser.proofs.verdicts.places.closing_ground.Given as goal

abbrev pub invariant-loop-line : goal.invariant-loop-line
invariant-loop-line l = l.lines.items ≡ closing_lines (take l.line-index (closing_of l.closing))
