-- How the tables of a grid are read, and what they keep. Assumes nothing.
use Rattle.std.specs.Prelude.{◌≡◌, ℕ, suc, ◌-◌, ◌<◌, ◌≤◌, Bool, if◌then◌else◌, ◌&&◌, List, [], length, ℤ, pos, nat_le, slice_index_or, unsigned_abs}
use Rattle.rules.specs.Bounds.{most_places, most_versions, most_rows, greatest_amount}
use Rattle.search.specs.declared.position.Amounts.{Amounts}
use Rattle.search.specs.declared.position.Position.{Position}

-- How many levels there may be: from 0 to the number of places.
abbrev pub most_levels : ℕ
most_levels = suc most_places

-- The amounts of a version that there is not.
abbrev pub no_amounts : Amounts
no_amounts = record { rows = [] }

-- A position that there is not.
abbrev pub no_position : Position
no_position = record { count = 0; versions = [] }

-- How many versions the place at a position has.
abbrev pub count_at : List Position → ℕ → ℕ
count_at ps p = (slice_index_or ps (p - 1) no_position).count

-- What stands in the table at an index of a position, of a version and of a row.
abbrev pub slot : List Position → ℕ → ℕ → ℕ → ℤ
slot ps i j r = slice_index_or (slice_index_or (slice_index_or ps i no_position).versions j no_amounts).rows r (pos 0)

-- The table has versions of this number.
abbrev pub has_version : ℕ → Bool
has_version v = nat_le 1 v && nat_le v most_versions

-- The amount of a row at a position with a version, and 0 outside the table.
abbrev pub amount_at : List Position → ℕ → ℕ → ℕ → ℤ
amount_at ps r p v = if has_version v then slot ps (p - 1) (v - 1) r else pos 0

-- No position has more versions than there may be.
abbrev pub Counted : List Position → Type 0
Counted ps = (i : ℕ) → i < most_places → (slice_index_or ps i no_position).count ≤ most_versions

-- Each position has a table of all versions that there may be.
abbrev pub Long : List Position → Type 0
Long ps = (i : ℕ) → i < most_places → length (slice_index_or ps i no_position).versions ≡ most_versions

-- Each version has a table of all rows that there may be.
abbrev pub Wide : List Position → Type 0
Wide ps = (i j : ℕ) → (i < most_places) × (j < most_versions) → length (slice_index_or (slice_index_or ps i no_position).versions j no_amounts).rows ≡ most_rows

-- No amount lies further from 0 than it may.
abbrev pub Near : List Position → Type 0
Near ps = (i j r : ℕ) → unsigned_abs (slot ps i j r) ≤ greatest_amount
