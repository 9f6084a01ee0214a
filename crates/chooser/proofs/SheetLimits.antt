-- The limits of a sheet in a table. Assumes nothing.
use Rattle.std.proofs.Common.{◌≡◌, ℕ, zero, suc, ◌≤◌, length, map, pos, ap, sym, ◌∙◌, inl, inr, arith}
use mathlib.Core.Path.{fun_ext}
use Rattle.std.specs.List.{range_with_len}
use Rattle.std.proofs.lemmas.Bool.{cases_lt}
use Rattle.std.proofs.lemmas.List.{get_or_past}
use Rattle.std.proofs.lemmas.List.FromFn.{length-map-range_with_len, get_or-map-range_with_len}
use Rattle.rules.specs.Bounds.{most_rows, greatest_row}
use Rattle.rules.specs.declared.sheets.Sheet.{Sheet}
use Rattle.rules.specs.declared.sheets.Row.{Row}
use Rattle.rules.specs.Sheets.{limit_of, blank_row}
use Rattle.search.specs.States.{limits_of}

past_table : (s : Sheet) → length s.rows ≡ greatest_row → (r : ℕ) → most_rows ≤ r → pos 0 ≡ limit_of s r
past_table s long zero past = absurd (omega (arith, past))
past_table s long (suc r) past = sym (ap (λ (x : Row). x.limit) (get_or_past s.rows r blank_row (omega (arith, long, past))))

pub limits_made : (s : Sheet) → length s.rows ≡ greatest_row → limits_of (map (limit_of s) (range_with_len 0 most_rows)) ≡ limit_of s
limits_made s long =
    fun_ext (λ r. elim (cases_lt r most_rows) [
      | inl low ↦ get_or-map-range_with_len (limit_of s) 0 most_rows r r (pos 0) low (omega arith)
      | inr past ↦ get_or_past (map (limit_of s) (range_with_len 0 most_rows)) r (pos 0) (omega (arith, past, length-map-range_with_len (limit_of s) 0 most_rows)) ∙ past_table s long r past
    ])
