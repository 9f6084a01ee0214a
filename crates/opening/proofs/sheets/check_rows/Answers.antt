use Rattle.std.proofs.Common.{suc, sym, ap, ◌∙◌, add-one, arith}
use Rattle.std.proofs.lemmas.List.{get_or-take}
use Rattle.std.proofs.lemmas.Result.{err_from_is_err_and}
use Rattle.rules.specs.Sheets.{blank_row, kind_of, limit_of}
use Rattle.rules.specs.Openings.{checked, row_tests}
use Rattle.rules.proofs.TestLoops.{each_passed, each_stops}
use Rattle.opening.proofs.sheets.check_rows.Goals as goal

pub returns-in_err-check_row : goal.returns-in_err-check_row
returns-in_err-check_row c =
    let s = c.args.sheet.now in
    let i = c.loop-row.row-index in
    let at = get_or-take c.from.result s.rows i blank_row (omega arith) in
    let p = err_from_is_err_and c.from_residual.result c.from_residual.ensures.1 in
    rw (p.1, p.2) (each_stops (λ r. row_tests (kind_of s r) (limit_of s r)) s.last_row (suc i) i _ (omega arith) (omega arith) c.loop-row.invariant (ap (λ row. checked (row_tests row.kind row.limit)) (sym at) ∙ sym c.check_row.ensures ∙ c.in_err-check_row.was))

pub loop-row-preserved : goal.loop-row-preserved
loop-row-preserved c =
    let s = c.args.sheet.now in
    let i = c.loop-row.row-index in
    let at = get_or-take c.from.result s.rows i blank_row (omega arith) in
    rw add-one (each_passed (λ r. row_tests (kind_of s r) (limit_of s r)) (suc i) i _ (omega arith) c.loop-row.invariant (ap (λ row. checked (row_tests row.kind row.limit)) (sym at) ∙ sym c.check_row.ensures ∙ c.in_ok-check_row.was))
