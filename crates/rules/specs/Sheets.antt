-- Sheets: how many places and rows a job has, its kinds, limits and order. Assumes nothing.
use Rattle.std.specs.Prelude.{◌≡◌, ℕ, zero, suc, ◌≤◌, ◌⊎◌, List, [], ◌∷◌, length, take, ℤ, pos, Some, None, Option, slice_index_or}
use Rattle.rules.specs.declared.kinds.Kind.{Kind}
use Rattle.rules.specs.declared.kinds.Kind.TheVariants.{SumAtMost}
use Rattle.rules.specs.declared.sheets.Row.{Row}
use Rattle.rules.specs.declared.sheets.Sheet.{Sheet}
use Rattle.rules.specs.Joinings.{Joining, joining, kind_number, kind_numbered}

-- The limit of each row, that of row 0 being the price cap.
abbrev pub Limits : Type 0
Limits = ℕ → ℤ

-- The number of the last row; row 0 is the price.
abbrev pub last_row : Sheet → ℕ
last_row s = s.last_row

-- What stands for a row past the table.
abbrev pub blank_row : Row
blank_row = record { kind = 0; limit = pos 0 }

-- The number of a row's kind; the price is added up, and the greater is worse.
abbrev pub kind_of : Sheet → ℕ → ℕ
kind_of s zero = kind_number SumAtMost
kind_of s (suc r) = (slice_index_or s.rows r blank_row).kind

-- The limit that the sheet sets a row.
abbrev pub limit_of : Sheet → Limits
limit_of s zero = s.cap
limit_of s (suc r) = (slice_index_or s.rows r blank_row).limit

-- The joining of the kind found for a number; where there is none, which no opened job has, that of the price.
abbrev pub joining_found : Option Kind → Joining
joining_found (Some k) = joining k
joining_found None = joining SumAtMost

-- A row's joining.
abbrev pub joining_of : Sheet → ℕ → Joining
joining_of s r = joining_found (kind_numbered (kind_of s r))

-- The places in the order of the sheet: the place at position 1, which gives way first, is at the front.
abbrev pub order_of : Sheet → List ℕ
order_of s = take s.places s.order

-- Some element of a list has a property.
abbrev pub AnyByRecursion : {X : Type 0} → (X → Type 0) → List X → Type 0
AnyByRecursion P [] = ⊥
AnyByRecursion P (x ∷ xs) = P x ⊎ AnyByRecursion P xs

-- The order lists each place at one position: it is as long as there are places, and each place is in it.
abbrev pub EachOnce : ℕ → List ℕ → Type 0
EachOnce n order = (length order ≡ n) × ((q : ℕ) → 1 ≤ q → q ≤ n → AnyByRecursion (λ x. x ≡ q) order)
