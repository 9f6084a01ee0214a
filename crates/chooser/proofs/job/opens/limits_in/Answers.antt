use Rattle.std.proofs.Common.{◌≡◌, length, pos, ap, ◌∙◌, arith, rules}
use Rattle.rules.specs.Bounds.{most_rows, greatest_row}
use Rattle.rules.specs.Sheets.{limit_of}
use Rattle.rules.proofs.Filled.{filled}
use Rattle.search.specs.States.{limits_of}
use Rattle.chooser.proofs.SheetLimits.{limits_made}
use Rattle.chooser.proofs.job.opens.limits_in.Goals as goal

pub returns : goal.returns
returns c =
    let s = c.args.sheet in
    let long : length s.rows ≡ greatest_row = omega arith in
    ap limits_of (filled _ _ most_rows (limit_of s) (λ i y q low k. search rules) c.from_fn.result (pos 0) c.from_fn.ensures.items) ∙ limits_made s long
