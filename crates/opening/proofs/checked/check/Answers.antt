use Rattle.std.proofs.Common.{sym, ◌∙◌}
use Rattle.std.proofs.lemmas.Result.{err_from_is_err_and}
use Rattle.rules.specs.Openings.{opening, first_fault, sheet_tests, catalogue_tests}
use Rattle.rules.proofs.TestLoops.{first_after, first_before, passed_tests, failed_tests}
use Rattle.opening.proofs.checked.check.Goals as goal

pub returns-in_err-check_sheet-clause-told : goal.returns-in_err-check_sheet-clause-told
unfolding opening
returns-in_err-check_sheet-clause-told g c =
    let s = c.args.sheet.now in
    let m = g.C.Catalogue.meaning c.args.catalogue.now in
    let p = err_from_is_err_and c.from_residual.result c.from_residual.ensures.1 in
    rw (p.1, p.2) (sym (first_before (sheet_tests s) (catalogue_tests m s) _ (failed_tests (first_fault (sheet_tests s)) _ _ (sym c.check_sheet.ensures ∙ c.in_err-check_sheet.was))))

pub returns-in_err-check_catalogue-clause-told : goal.returns-in_err-check_catalogue-clause-told
unfolding opening
returns-in_err-check_catalogue-clause-told g c =
    let s = c.args.sheet.now in
    let m = g.C.Catalogue.meaning c.args.catalogue.now in
    let p = err_from_is_err_and c.from_residual-in_err-check_catalogue.result c.from_residual-in_err-check_catalogue.ensures.1 in
    let sheet = passed_tests (first_fault (sheet_tests s)) _ _ (sym c.check_sheet.ensures ∙ c.in_ok-check_sheet.was) in
    rw (p.1, p.2) (sym (first_after (sheet_tests s) (catalogue_tests m s) sheet.0 ∙ failed_tests (first_fault (catalogue_tests m s)) _ _ (sym c.check_catalogue.ensures ∙ c.in_err-check_catalogue.was)))

pub invariant_of-result : goal.invariant_of-result
unfolding opening
invariant_of-result g c =
    let s = c.args.sheet.now in
    let m = g.C.Catalogue.meaning c.args.catalogue.now in
    let sheet = passed_tests (first_fault (sheet_tests s)) _ _ (sym c.check_sheet.ensures ∙ c.in_ok-check_sheet.was) in
    let catalogue = passed_tests (first_fault (catalogue_tests m s)) _ _ (sym c.check_catalogue.ensures ∙ c.in_ok-check_catalogue.was) in
    record { faultless = first_after (sheet_tests s) (catalogue_tests m s) sheet.0 ∙ catalogue.0 }
