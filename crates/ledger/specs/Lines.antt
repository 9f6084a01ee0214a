-- Lines that the tables hold. Assumes nothing.
use Rattle.std.specs.Prelude.{ℕ, ◌+◌, ◌*◌, ◌≤◌, Bool, ◌&&◌, List, pos, nat_le, slice_index_or, unsigned_abs}
use Rattle.std.specs.List.{list_all}
use Rattle.rules.specs.declared.lines.Line.{Line}
use Rattle.rules.specs.Bounds.{greatest_row, most_places, amount_reach, greatest_amount}

-- What is read past the end of a list of lines.
abbrev pub no_line : Line
no_line = record { row = 0; level = 0; constant = pos 0 }

-- How far from 0 the constant of a line at a level may lie: as far as a unit, and an amount further for each position up to the level.
abbrev pub reach : ℕ → ℕ
reach level = amount_reach + level * greatest_amount

-- The tables hold lines of rows and levels that there can be, with constants within reach.
abbrev pub Near : Line → Type 0
Near l = (l.row ≤ greatest_row) × (l.level ≤ most_places) × (unsigned_abs l.constant ≤ reach l.level)

-- The same as a test.
abbrev pub near : Line → Bool
near l = nat_le l.row greatest_row && (nat_le l.level most_places && nat_le (unsigned_abs l.constant) (reach l.level))

-- Each line of a list is such a line.
abbrev pub AllNear : List Line → Type 0
AllNear ls = (k : ℕ) → Near (slice_index_or ls k no_line)

-- The same as a test.
abbrev pub all_near : List Line → Bool
all_near ls = list_all near ls
