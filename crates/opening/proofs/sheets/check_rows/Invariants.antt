use Rattle.std.proofs.Common.{◌≡◌, None}
use Rattle.rules.specs.Openings.{first_fault, rows_tests}
use Rattle.opening.proofs.sheets.check_rows.Given as goal

abbrev pub invariant-loop-row : goal.invariant-loop-row
invariant-loop-row l = first_fault (rows_tests l.sheet l.row-index) ≡ None
