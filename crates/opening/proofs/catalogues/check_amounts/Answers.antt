use Rattle.std.proofs.Common.{◌≡◌, ◌+◌, ◌-◌, None, sym, ◌∙◌, subst, arith}
use Rattle.std.proofs.lemmas.Result.{err_from_is_err_and}
use Rattle.rules.specs.Openings.{each_to, first_fault, place_tests}
use Rattle.rules.proofs.TestLoops.{each_passed, each_stops, each_done}
use Rattle.opening.proofs.catalogues.check_amounts.Goals as goal

pub returns-in_err-check_place : goal.returns-in_err-check_place
returns-in_err-check_place g c =
    let k = c.loop-place.place in
    let m = g.C.Catalogue.meaning c.args.catalogue.now in
    let tests = place_tests m in
    let p = err_from_is_err_and c.from_residual.result c.from_residual.ensures.1 in
    rw (p.1, p.2) (each_stops tests m.places k (k - 1) _ (omega arith) (omega arith) c.loop-place.invariant (sym c.check_place.ensures ∙ c.in_err-check_place.was))

pub loop-place-preserved : goal.loop-place-preserved
loop-place-preserved g c =
    let k = c.loop-place.place in
    let m = g.C.Catalogue.meaning c.args.catalogue.now in
    let tests = place_tests m in
    let next : k ≡ k + 1 - 1 = omega arith in
    subst (λ i. first_fault (each_to tests i) ≡ None) next (each_passed tests k (k - 1) _ (omega arith) c.loop-place.invariant (sym c.check_place.ensures ∙ c.in_ok-check_place.was))

pub returns-in_ok-check_place : goal.returns-in_ok-check_place
returns-in_ok-check_place g c =
    let k = c.loop-place.place in
    let m = g.C.Catalogue.meaning c.args.catalogue.now in
    let tests = place_tests m in
    each_done tests m.places k (omega arith) (each_passed tests k (k - 1) _ (omega arith) c.loop-place.invariant (sym c.check_place.ensures ∙ c.in_ok-check_place.was))
