-- What a catalogue means, and what it answers. Assumes nothing.
use Rattle.std.specs.Prelude.{◌≡◌, ℕ, ◌-◌, ◌<◌, ◌≤◌, Bool, if◌then◌else◌, ◌&&◌, ℤ, pos, ◌+ℤ◌, ◌*ℤ◌, Some, None, Option, nat_le, nat_lt, unsigned_abs}
use Rattle.rules.specs.Bounds.{most_places, most_rows, most_versions, amount_reach}

-- The meaning of a catalogue, its places and versions numbered from 1 and its rows from 0.
pub record Meaning : Type 0 where
  pub places : ℕ
  pub rows : ℕ
  -- how many versions a place has
  pub versions : ℕ → ℕ
  -- the amount of a row at a place with a version
  pub amount : ℕ → ℕ → ℕ → ℤ

-- What whoever supplies a catalogue shows of its meaning: its counts and amounts keep the bounds.
pub record SoundMeaning (m : Meaning) : Type 0 where
  pub few_places : m.places ≤ most_places
  pub some_row : 1 ≤ m.rows
  pub few_rows : m.rows ≤ most_rows
  pub some_version : (q : ℕ) → 1 ≤ q → q ≤ m.places → 1 ≤ m.versions q
  pub few_versions : (q : ℕ) → 1 ≤ q → q ≤ m.places → m.versions q ≤ most_versions
  pub near : (row q v : ℕ) → row < m.rows → 1 ≤ q → q ≤ m.places → 1 ≤ v → v ≤ m.versions q → unsigned_abs (m.amount row q v) ≤ amount_reach

-- The meaning has a place of this number.
abbrev pub has_place : Meaning → ℕ → Bool
has_place m q = nat_le 1 q && nat_le q m.places

-- The meaning has an amount of this row, place and version.
abbrev pub has_amount : Meaning → ℕ → ℕ → ℕ → Bool
has_amount m row q v = nat_lt row m.rows && (has_place m q && (nat_le 1 v && nat_le v (m.versions q)))

-- Asked for the versions of a place, a catalogue answers how many there are, and "none" exactly outside the meaning.
abbrev pub versions_told : Meaning → ℕ → Option ℕ
versions_told m q = if has_place m q then Some (m.versions q) else None

-- Asked for an amount, a catalogue answers it, and "none" exactly outside the meaning.
abbrev pub amount_told : Meaning → ℕ → ℕ → ℕ → Option ℤ
amount_told m row q v = if has_amount m row q v then Some (m.amount row q v) else None

-- Two catalogues answer every question alike.
pub record SameAnswers (a b : Meaning) : Type 0 where
  pub places : a.places ≡ b.places
  pub rows : a.rows ≡ b.rows
  pub versions : (q : ℕ) → versions_told a q ≡ versions_told b q
  pub amounts : (row q v : ℕ) → amount_told a row q v ≡ amount_told b row q v

-- The amount of a version on a ladder: the base, and one step more for each version above the first.
abbrev pub rung : ℤ → ℤ → ℕ → ℤ
rung base step v = base +ℤ (pos (v - 1) *ℤ step)
