use Rattle.std.proofs.Common.{◌≡◌, suc, ◌-◌, ◌≤◌}
use Rattle.exhaustive.specs.Trials.{guarded}
use Rattle.exhaustive.proofs.Versions.{next_to}
use Rattle.exhaustive.proofs.trial.Trial.+try_last.Given as goal

abbrev pub decreases-try_last : goal.decreases-try_last
decreases-try_last g l = l.left

abbrev pub invariant-loop-version : goal.invariant-loop-version
invariant-loop-version g l =
    (1 ≤ l.version) × (l.version ≤ suc l.version-end)
    × (l.best ≡ next_to (guarded (g.C.Catalogue.meaning l.self.catalogue.now)) l.self.sheet.now l.left l.self.versions (l.version - 1))
