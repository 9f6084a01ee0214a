use Rattle.std.proofs.Common.{◌≡◌, ◌-◌, None}
use Rattle.rules.specs.Openings.{each_to, first_fault, place_tests}
use Rattle.opening.proofs.catalogues.check_amounts.Given as goal

abbrev pub invariant-loop-place : goal.invariant-loop-place
invariant-loop-place g l =
    first_fault (each_to (place_tests (g.C.Catalogue.meaning l.catalogue)) (l.place - 1)) ≡ None
