use Rattle.std.proofs.Common.{◌≡◌, [], ◌∷◌, ◌++◌, sym, ap, ◌∙◌, arith, w32, to_z, of_z}
use borrow.Author.Differences.{ints}
use Rattle.std.proofs.lemmas.Result.{err_from_is_err_and}
use Rattle.rules.specs.Sheets.{limit_of}
use Rattle.rules.specs.Openings.{checked, counts_test, limit_test, rows_tests, order_test}
use Rattle.rules.proofs.TestLoops.{first_stops, then_second}
use Rattle.opening.proofs.sheets.check_sheet.Goals as goal

pub returns-in_err-check_rows : goal.returns-in_err-check_rows
returns-in_err-check_rows c =
    let s = c.args.sheet.now in
    let fits : to_z w32 (of_z w32 s.cap) ≡ s.cap = omega (arith, ints) in
    let rows = rows_tests s s.last_row in
    let last = order_test s ∷ [] in
    let cap = limit_test (limit_of s 0) ∷ [] in
    let p = err_from_is_err_and c.from_residual-in_err-check_rows.result c.from_residual-in_err-check_rows.ensures.1 in
    rw (p.1, p.2) (first_stops rows last _ (sym c.check_rows.ensures ∙ c.in_err-check_rows.was)
    ∙ then_second cap (rows ++ last) _ (ap (λ z. checked (limit_test z ∷ [])) (sym fits) ∙ sym c.check_limit.ensures ∙ c.in_ok-check_limit.was)
    ∙ then_second (counts_test s ∷ []) (cap ++ (rows ++ last)) _ (sym c.check_counts.ensures ∙ c.in_ok-check_counts.was))

pub returns : goal.returns
returns c =
    let s = c.args.sheet.now in
    let fits : to_z w32 (of_z w32 s.cap) ≡ s.cap = omega (arith, ints) in
    let rows = rows_tests s s.last_row in
    let last = order_test s ∷ [] in
    let cap = limit_test (limit_of s 0) ∷ [] in
    c.check_order.ensures
    ∙ then_second rows last _ (sym c.check_rows.ensures ∙ c.in_ok-check_rows.was)
    ∙ then_second cap (rows ++ last) _ (ap (λ z. checked (limit_test z ∷ [])) (sym fits) ∙ sym c.check_limit.ensures ∙ c.in_ok-check_limit.was)
    ∙ then_second (counts_test s ∷ []) (cap ++ (rows ++ last)) _ (sym c.check_counts.ensures ∙ c.in_ok-check_counts.was)
