-- What the tables of a grid are made of. Assumes nothing.
use Rattle.std.specs.Prelude.{ℕ, zero, suc, List, map, slice_index_or}
use Rattle.std.specs.List.{range_with_len}
use Rattle.std.specs.Option.{unwrap_or}
use Rattle.rules.specs.declared.kinds.Kind.{Kind}
use Rattle.rules.specs.declared.kinds.Kind.TheVariants.{SumAtMost}
use Rattle.rules.specs.declared.sheets.Row.{Row}
use Rattle.rules.specs.declared.sheets.Sheet.{Sheet}
use Rattle.rules.specs.Bounds.{most_places, most_versions, most_rows}
use Rattle.rules.specs.Joinings.{kind_numbered}
use Rattle.rules.specs.Catalogues.{Meaning}
use Rattle.rules.specs.Sheets.{blank_row, order_of}
use Rattle.rules.specs.Settings.{versions_in, amount_in, place_at}
use Rattle.search.specs.declared.position.Amounts.{Amounts}
use Rattle.search.specs.declared.position.Position.{Position}

-- The kind of a row, in a table that begins with row 1; the price is added up, and so is a row whose number stands for no kind.
abbrev pub kind_at : List Row → ℕ → Kind
kind_at rows zero = SumAtMost
kind_at rows (suc r) = unwrap_or (kind_numbered (slice_index_or rows r blank_row).kind) SumAtMost

-- The kinds of all rows that there may be.
unfoldable pub kinds_in : List Row → List Kind
kinds_in rows = map (kind_at rows) (range_with_len 0 most_rows)

-- The amounts of a version of a place, in all rows that there may be.
unfoldable pub amounts_in : Meaning → ℕ → ℕ → Amounts
amounts_in m q v = record { rows = map (λ r. amount_in m r q v) (range_with_len 0 most_rows) }

-- What can be chosen at a place: the count of its versions, and the amounts of all versions that there may be.
unfoldable pub position_in : Meaning → ℕ → Position
position_in m q = record { count = versions_in m q; versions = map (λ j. amounts_in m q (suc j)) (range_with_len 0 most_versions) }

-- What can be chosen at all positions that there may be.
unfoldable pub positions_in : Meaning → Sheet → List Position
positions_in m s = map (λ i. position_in m (place_at (order_of s) (suc i))) (range_with_len 0 most_places)
