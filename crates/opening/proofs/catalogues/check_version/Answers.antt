use Rattle.std.proofs.Common.{◌≡◌, suc, ◌-◌, [], ◌∷◌, sym, ap, ◌∙◌, add-one, arith}
use Rattle.std.proofs.lemmas.Result.{err_from_is_err_and}
use Rattle.rules.proofs.TestLoops.{each_passed, each_stops}
use Rattle.rules.specs.declared.refusals.Refusal.TheVariants.{AmountBeyond}
use Rattle.rules.specs.Refusals.{fault_at}
use Rattle.rules.specs.Openings.{amount_test, checked}
use Rattle.opening.proofs.Loops.{by_row}
use Rattle.opening.proofs.catalogues.check_version.Goals as goal

pub returns-in_err-check_amount : goal.returns-in_err-check_amount
returns-in_err-check_amount g c =
    let k = c.loop-row.row in
    let m = g.C.Catalogue.meaning c.args.catalogue.now in
    let back : suc k - 1 ≡ k = omega arith in
    let tests = by_row m c.args.place c.args.version in
    let p = err_from_is_err_and c.from_residual.result c.from_residual.ensures.1 in
    rw (p.1, p.2) (each_stops tests m.rows (suc k) k _ (omega arith) (omega arith) c.loop-row.invariant (ap (λ i. checked (amount_test (m.amount i c.args.place c.args.version) (fault_at AmountBeyond c.args.place c.args.version i) ∷ [])) back ∙ sym c.check_amount.ensures ∙ c.in_err-check_amount.was))

pub loop-row-preserved : goal.loop-row-preserved
loop-row-preserved g c =
    let k = c.loop-row.row in
    let m = g.C.Catalogue.meaning c.args.catalogue.now in
    let back : suc k - 1 ≡ k = omega arith in
    let tests = by_row m c.args.place c.args.version in
    rw add-one (each_passed tests (suc k) k _ (omega arith) c.loop-row.invariant (ap (λ i. checked (amount_test (m.amount i c.args.place c.args.version) (fault_at AmountBeyond c.args.place c.args.version i) ∷ [])) back ∙ sym c.check_amount.ensures ∙ c.in_ok-check_amount.was))
