-- What a closure answers that gives the amounts of a version. Assumes nothing.
use Rattle.std.specs.Prelude.{◌≡◌, ℕ, ◌≤◌, ℤ}

-- Asked for a row up to the last one, it answers that row's amount.
abbrev pub Gives : (ℕ → ℤ → Type 0) → ℕ → (ℕ → ℤ) → Type 0
Gives answers last_row amounts = (row : ℕ) (z : ℤ) → row ≤ last_row → answers row z → z ≡ amounts row
