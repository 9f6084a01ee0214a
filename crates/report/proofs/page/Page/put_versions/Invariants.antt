use Rattle.std.proofs.Common.{◌++◌, codes, decimal, flat_map, take}
use Rattle.report.specs.Writing.{Puts}
use Rattle.report.proofs.page.Page.put_versions.Given as goal

abbrev pub invariant-loop-version : goal.invariant-loop-version
invariant-loop-version l = Puts l.fn.self (flat_map (λ v. codes " " ++ decimal v) (take l.version-index l.versions)) l.self
