use Rattle.std.proofs.Common.{◌≡◌, suc, true}
use Rattle.exhaustive.specs.Trials.{all_first}
use Rattle.rules.specs.Openings.{kind_known}
use Rattle.exhaustive.proofs.trial.Trial.known_kinds.Given as goal

abbrev pub invariant-loop-row : goal.invariant-loop-row
invariant-loop-row g l = all_first (kind_known l.self.sheet.now) (suc l.row-index) ≡ true
