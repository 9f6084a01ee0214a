use Rattle.std.proofs.Common.{◌≡◌, suc, true, false, sym, ap, ◌∙◌, add-one, arith}
use Rattle.std.proofs.lemmas.List.{get_or-take}
use Rattle.std.proofs.lemmas.Result.{err_from_is_err_and}
use Rattle.std.proofs.lemmas.Bool.{and_from}
use Rattle.rules.specs.declared.refusals.Refusal.TheVariants.{UnknownKind}
use Rattle.rules.specs.Sheets.{blank_row}
use Rattle.exhaustive.specs.Trials.{all_first}
use Rattle.rules.specs.Openings.{kind_known}
use Rattle.exhaustive.proofs.KeptRows.{one_fails}
use Rattle.exhaustive.proofs.trial.Trial.known_kinds.Goals as goal

pub returns-in_err-try_from : goal.returns-in_err-try_from
returns-in_err-try_from g c =
    let s = c.args.self.now.sheet.now in
    let at = get_or-take c.from.result s.rows c.loop-row.row-index blank_row (omega arith) in
    let unknown : kind_known s (suc c.loop-row.row-index) ≡ false = grind arith in
    let e : c.in_err-try_from.field-0.0 ≡ UnknownKind = grind arith in
    let p = err_from_is_err_and c.from_residual.result c.from_residual.ensures.1 in
    rw p.1 (p.2 ∙ e, one_fails (kind_known s) (suc s.last_row) (suc c.loop-row.row-index) (omega arith) unknown)

pub loop-row-preserved : goal.loop-row-preserved
loop-row-preserved g c =
    let s = c.args.self.now.sheet.now in
    let at = get_or-take c.from.result s.rows c.loop-row.row-index blank_row (omega arith) in
    let known : kind_known s (suc c.loop-row.row-index) ≡ true = grind arith in
    rw add-one (and_from _ _ c.loop-row.invariant known)

pub returns : goal.returns
returns g c =
    let s = c.args.self.now.sheet.now in
    let all : c.loop-row.row-index ≡ s.last_row = omega arith in
    sym (ap (λ n. all_first (kind_known s) (suc n)) all) ∙ c.loop-row.invariant
