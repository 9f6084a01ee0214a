use Rattle.std.proofs.Common.{◌≡◌, ◌-◌, None}
use Rattle.rules.specs.Openings.{each_to, first_fault, version_tests}
use Rattle.opening.proofs.catalogues.check_place.Given as goal

abbrev pub invariant-loop-version : goal.invariant-loop-version
invariant-loop-version g l =
    first_fault (each_to (version_tests (g.C.Catalogue.meaning l.catalogue) l.place) (l.version - 1)) ≡ None
