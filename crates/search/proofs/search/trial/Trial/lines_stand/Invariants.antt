use Rattle.std.proofs.Common.{◌≡◌, drop}
use Rattle.search.specs.Trials.{holds}
use Rattle.search.proofs.search.trial.Trial.lines_stand.Given as goal

abbrev pub invariant-loop-line : goal.invariant-loop-line
invariant-loop-line l = holds l.self l.ground ≡ holds l.self (drop l.line-index l.ground)
