-- How long the lines of a report can be. Assumes nothing.
use Rattle.std.proofs.Common.{ℕ, zero, suc, ◌+◌, ◌*◌, ◌≤◌, length, nat_abs, rules, arith, length-append}
use Rattle.std.proofs.lemmas.Fmt.{length-decimal-le, length_signed_le}
use Rattle.rules.specs.declared.lines.ClosingLine.{ClosingLine}
use Rattle.rules.specs.declared.refusals.Refusal.{Refusal}
use Rattle.rules.specs.declared.sheets.Sheet.{Sheet}
use Rattle.rules.specs.Bounds.{amount_reach, greatest_amount, greatest_row, most_places}
use Rattle.rules.specs.Refusals.{refusal_number}
use Rattle.rules.specs.Calls.{Answer, ran, refused, taken}
use Rattle.rules.specs.Records.{answer_number}
use Rattle.report.specs.Reports.{answer_text, call_line, closing_line, job_line, most_reported}

-- no line of a call or of a closing ground is longer
abbrev pub line_most : ℕ
line_most = 20

refusal_few : (e : Refusal) → refusal_number e ≤ 17
refusal_few e = search rules

-- an answer has at most two digits
pub answer_few : (a : Answer) → answer_number a ≤ 17
answer_few taken = omega arith
answer_few (ran w k) = omega arith
answer_few (refused e) = refusal_few e

answer_fits : (n : ℕ) → n ≤ 17 → length (answer_text n) ≤ 10
answer_fits zero h = omega arith
answer_fits (suc n) h = grind (arith, length-append, length-decimal-le 2 (suc n))

pub job_fits : (s : Sheet) → s.places ≤ most_places → s.last_row ≤ greatest_row → length (job_line s) ≤ 9
job_fits s h k = grind (arith, length-append, length-decimal-le 2 s.places, length-decimal-le 1 s.last_row)

pub call_fits : (k n : ℕ) → k ≤ most_reported → n ≤ 17 → length (call_line k n) ≤ line_most
call_fits k n h l = grind (arith, length-append, length-decimal-le 3 k, answer_fits n l)

pub closing_fits : (l : ClosingLine) → l.row ≤ greatest_row → nat_abs l.constant ≤ amount_reach + most_places * greatest_amount → length (closing_line l) ≤ line_most
closing_fits l h n = grind (arith, length-append, length-decimal-le 1 l.row, length_signed_le 13 l.constant)
