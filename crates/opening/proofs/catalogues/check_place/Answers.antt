use Rattle.std.proofs.Common.{◌≡◌, ◌+◌, ◌-◌, None, sym, ◌∙◌, subst, arith, rules}
use Rattle.std.proofs.lemmas.Result.{err_from_is_err_and}
use Rattle.rules.specs.Openings.{each_to, first_fault, version_tests}
use Rattle.rules.proofs.TestLoops.{each_passed, each_stops, each_done}
use Rattle.opening.proofs.catalogues.check_place.Goals as goal

pub returns-in_err-check_version : goal.returns-in_err-check_version
returns-in_err-check_version g c =
    let k = c.loop-version.version in
    let m = g.C.Catalogue.meaning c.args.catalogue.now in
    let tests = version_tests m c.args.place in
    let end : c.unwrap_or-version-end.result ≡ m.versions c.args.place = search rules in
    let p = err_from_is_err_and c.from_residual.result c.from_residual.ensures.1 in
    rw (p.1, p.2) (each_stops tests (m.versions c.args.place) k (k - 1) _ (omega arith) (omega arith) c.loop-version.invariant (sym c.check_version.ensures ∙ c.in_err-check_version.was))

pub loop-version-preserved : goal.loop-version-preserved
loop-version-preserved g c =
    let k = c.loop-version.version in
    let m = g.C.Catalogue.meaning c.args.catalogue.now in
    let tests = version_tests m c.args.place in
    let next : k ≡ k + 1 - 1 = omega arith in
    subst (λ i. first_fault (each_to tests i) ≡ None) next (each_passed tests k (k - 1) _ (omega arith) c.loop-version.invariant (sym c.check_version.ensures ∙ c.in_ok-check_version.was))

pub returns-in_ok-check_version : goal.returns-in_ok-check_version
returns-in_ok-check_version g c =
    let k = c.loop-version.version in
    let m = g.C.Catalogue.meaning c.args.catalogue.now in
    let tests = version_tests m c.args.place in
    let end : c.unwrap_or-version-end.result ≡ m.versions c.args.place = search rules in
    each_done tests (m.versions c.args.place) k (omega arith) (each_passed tests k (k - 1) _ (omega arith) c.loop-version.invariant (sym c.check_version.ensures ∙ c.in_ok-check_version.was))
