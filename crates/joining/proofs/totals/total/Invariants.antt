use Rattle.std.proofs.Common.{◌≡◌}
use Rattle.rules.specs.Joinings.{joined_over}
use Rattle.joining.proofs.Nears.{amounts}
use Rattle.joining.proofs.totals.total.Given as goal

abbrev pub invariant-loop-index : goal.invariant-loop-index
invariant-loop-index g l = l.total ≡ joined_over g.J.Joining.rule (amounts (g.C.Catalogue.meaning l.catalogue) l.row l.versions) l.index
