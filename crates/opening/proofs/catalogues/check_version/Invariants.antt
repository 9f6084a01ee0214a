use Rattle.std.proofs.Common.{◌≡◌, None}
use Rattle.rules.specs.Openings.{each_to, first_fault}
use Rattle.opening.proofs.Loops.{by_row}
use Rattle.opening.proofs.catalogues.check_version.Given as goal

abbrev pub invariant-loop-row : goal.invariant-loop-row
invariant-loop-row g l =
    first_fault (each_to (by_row (g.C.Catalogue.meaning l.catalogue) l.place l.version) l.row) ≡ None
