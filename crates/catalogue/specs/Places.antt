-- What the catalogues made place by place have in common. Assumes nothing.
use Rattle.std.specs.Prelude.{ℕ, ◌≤◌, Bool, ◌&&◌, nat_le}
use Rattle.rules.specs.Bounds.{most_places, most_rows, most_versions}

-- A catalogue can have so many rows.
abbrev pub allowed_rows : ℕ → Bool
allowed_rows rows = nat_le 1 rows && nat_le rows most_rows

-- A catalogue has a row, and no more rows and places than there may be.
abbrev pub Counted : ℕ → ℕ → Type 0
Counted rows places = (1 ≤ rows) × (rows ≤ most_rows) × (places ≤ most_places)

-- A place has a version, and no more versions than there may be.
abbrev pub Versions : ℕ → Type 0
Versions count = (1 ≤ count) × (count ≤ most_versions)
