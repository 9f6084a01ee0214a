-- What is tested when a job is opened with a sheet and a catalogue. Assumes nothing.
use Rattle.std.specs.Prelude.{◌≡◌, ℕ, zero, suc, ◌-◌, ◌<◌, ◌≤◌, ◌⊎◌, Bool, true, if◌then◌else◌, ◌&&◌, List, [], ◌∷◌, ◌++◌, length, ℤ, is_some, Some, None, Ok, Err, Option, Result, ◌==◌, nat_le, unsigned_abs}
use Rattle.std.specs.List.{list_any}
use Rattle.rules.specs.declared.kinds.Kind.{Kind}
use Rattle.rules.specs.declared.refusals.Fault.{Fault}
use Rattle.rules.specs.declared.refusals.Refusal.TheVariants.{CountOutside, UnknownKind, LimitBeyond, OrderNotOnce, CountsDiffer, AmountBeyond}
use Rattle.rules.specs.declared.sheets.Sheet.{Sheet}
use Rattle.rules.specs.Bounds.{most_places, greatest_row, greatest_amount, greatest_limit}
use Rattle.rules.specs.Joinings.{kind_number, kind_numbered}
use Rattle.rules.specs.Refusals.{fault, fault_at}
use Rattle.rules.specs.Catalogues.{Meaning, has_amount}
use Rattle.rules.specs.Sheets.{last_row, kind_of, limit_of, order_of, EachOnce}

-- The sheet has as many places and rows as the catalogue.
abbrev pub SameCounts : Meaning → Sheet → Type 0
SameCounts m s = (m.places ≡ s.places) × (m.rows ≡ suc (last_row s))

-- The same, worked out.
abbrev pub counts_same : Meaning → Sheet → Bool
counts_same m s = m.places == s.places && m.rows == suc (last_row s)

-- The kind of a row has the number of one.
abbrev pub KnownKind : Sheet → ℕ → Type 0
KnownKind s r = (k : Kind) × (kind_number k ≡ kind_of s r)

-- Each row's kind has the number of one.
abbrev pub KnownKinds : Sheet → Type 0
KnownKinds s = (r : ℕ) → 1 ≤ r → r ≤ last_row s → KnownKind s r

-- The kind of a row has the number of one, worked out.
abbrev pub kind_known : Sheet → ℕ → Bool
kind_known s r = is_some (kind_numbered (kind_of s r))

-- A sheet and a catalogue with which a job opens without fault.
pub record Faultless (m : Meaning) (s : Sheet) : Type 0 where
  pub some_place : 1 ≤ s.places
  pub few_places : s.places ≤ most_places
  pub few_rows : last_row s ≤ greatest_row
  pub kinds : KnownKinds s
  pub limits : (r : ℕ) → r ≤ last_row s → unsigned_abs (limit_of s r) ≤ greatest_limit
  pub order : EachOnce s.places (order_of s)
  -- the catalogue has as many places and rows as the sheet
  pub same_places : m.places ≡ s.places
  pub same_rows : m.rows ≡ suc (last_row s)
  pub amounts : (row q v : ℕ) → row ≤ last_row s → 1 ≤ q → q ≤ s.places → 1 ≤ v → v ≤ m.versions q → unsigned_abs (m.amount row q v) ≤ greatest_amount

-- The counts of a sheet keep their bounds.
abbrev pub CountsWithin : Sheet → Type 0
CountsWithin s = (1 ≤ s.places) × (s.places ≤ most_places) × (last_row s ≤ greatest_row)

-- A row's limit keeps its bound.
abbrev pub LimitWithin : Sheet → ℕ → Type 0
LimitWithin s r = unsigned_abs (limit_of s r) ≤ greatest_limit

-- An amount keeps the bound of a job.
abbrev pub AmountWithin : Meaning → ℕ → ℕ → ℕ → Type 0
AmountWithin m row q v = unsigned_abs (m.amount row q v) ≤ greatest_amount

-- The counts, the cap and the rows from 1 up to one pass their tests.
pub record RowsPass (s : Sheet) (last : ℕ) : Type 0 where
  pub counts : CountsWithin s
  pub cap : LimitWithin s 0
  pub rows : (r : ℕ) → 1 ≤ r → r ≤ last → KnownKind s r × LimitWithin s r

-- A place, version and row come before others: by place, then version, then row.
abbrev pub ComesBefore : ℕ → ℕ → ℕ → ℕ → ℕ → ℕ → Type 0
ComesBefore p u k q v row = (p < q) ⊎ ((p ≡ q) × ((u < v) ⊎ ((u ≡ v) × (k < row))))

-- The fault that an opening finds: that of a test that fails, where all before it pass.
pub data FaultFound (m : Meaning) (s : Sheet) : Fault → Type 0 where
  counts_outside : (CountsWithin s → ⊥) → FaultFound m s (fault CountOutside)
  cap_beyond : CountsWithin s → (LimitWithin s 0 → ⊥) → FaultFound m s (fault LimitBeyond)
  kind_unknown : (r : ℕ) → r < last_row s → RowsPass s r → (KnownKind s (suc r) → ⊥) → FaultFound m s (fault UnknownKind)
  limit_beyond : (r : ℕ) → r < last_row s → RowsPass s r → KnownKind s (suc r) → (LimitWithin s (suc r) → ⊥) → FaultFound m s (fault LimitBeyond)
  order_wrong : RowsPass s (last_row s) → (EachOnce s.places (order_of s) → ⊥) → FaultFound m s (fault OrderNotOnce)
  counts_differ : RowsPass s (last_row s) → EachOnce s.places (order_of s) → (SameCounts m s → ⊥) → FaultFound m s (fault_at CountsDiffer m.places 0 m.rows)
  amount_beyond : (q v row : ℕ) → RowsPass s (last_row s) → EachOnce s.places (order_of s) → SameCounts m s → has_amount m row q v ≡ true → ((p u k : ℕ) → has_amount m k p u ≡ true → ComesBefore p u k q v row → AmountWithin m k p u) → (AmountWithin m row q v → ⊥) → FaultFound m s (fault_at AmountBeyond q v row)

-- What is made for each number from 1 up to one, one after the other.
abbrev pub each_to : {X : Type 0} → (ℕ → List X) → ℕ → List X
each_to f zero = []
each_to f (suc k) = each_to f k ++ f (suc k)

-- A test gives no fault, or its own.
abbrev pub test : Bool → Fault → Option Fault
test good f = if good then None else Some f

-- A number is in a list.
abbrev pub contains : ℕ → List ℕ → Bool
contains q xs = list_any (λ x. x == q) xs

-- Each number from 1 up to one is in the list.
abbrev pub contains_all : ℕ → List ℕ → Bool
contains_all zero xs = true
contains_all (suc q) xs = contains_all q xs && contains (suc q) xs

-- The test of a sheet's counts.
abbrev pub counts_test : Sheet → Option Fault
counts_test s = test (nat_le 1 s.places && (nat_le s.places most_places && nat_le (last_row s) greatest_row)) (fault CountOutside)

-- The test of a limit; that of row 0 is the cap.
abbrev pub limit_test : ℤ → Option Fault
limit_test limit = test (nat_le (unsigned_abs limit) greatest_limit) (fault LimitBeyond)

-- The tests of a row: the number of its kind, and its limit.
abbrev pub row_tests : ℕ → ℤ → List (Option Fault)
row_tests kind limit = test (is_some (kind_numbered kind)) (fault UnknownKind) ∷ limit_test limit ∷ []

-- The tests of the rows from 1 up to one.
abbrev pub rows_tests : Sheet → ℕ → List (Option Fault)
rows_tests s k = each_to (λ r. row_tests (kind_of s r) (limit_of s r)) k

-- The test of the order.
abbrev pub order_test : Sheet → Option Fault
order_test s = test (length (order_of s) == s.places && contains_all s.places (order_of s)) (fault OrderNotOnce)

-- The tests of a sheet: the counts, the cap, each row, and the order.
abbrev pub sheet_tests : Sheet → List (Option Fault)
sheet_tests s = counts_test s ∷ limit_test (limit_of s 0) ∷ (rows_tests s (last_row s) ++ order_test s ∷ [])

-- The test of a catalogue's counts beside a sheet's.
abbrev pub same_counts_test : Meaning → Sheet → Option Fault
same_counts_test m s = test (counts_same m s) (fault_at CountsDiffer m.places 0 m.rows)

-- The test of an amount, with the fault of one beyond the bound.
abbrev pub amount_test : ℤ → Fault → Option Fault
amount_test amount beyond = test (nat_le (unsigned_abs amount) greatest_amount) beyond

-- The tests of the amounts of so many rows, from the price on.
abbrev pub amount_tests : ℕ → (ℕ → ℤ) → (ℕ → Fault) → List (Option Fault)
amount_tests rows amount beyond = each_to (λ k. amount_test (amount (k - 1)) (beyond (k - 1)) ∷ []) rows

-- The tests of the amounts of a version of a place, row by row.
abbrev pub version_tests : Meaning → ℕ → ℕ → List (Option Fault)
version_tests m q v = amount_tests m.rows (λ row. m.amount row q v) (λ row. fault_at AmountBeyond q v row)

-- The tests of the amounts of a place, version by version.
abbrev pub place_tests : Meaning → ℕ → List (Option Fault)
place_tests m q = each_to (version_tests m q) (m.versions q)

-- The tests of a catalogue beside a sheet: its counts, and its amounts by place, version and row.
abbrev pub catalogue_tests : Meaning → Sheet → List (Option Fault)
catalogue_tests m s = same_counts_test m s ∷ each_to (place_tests m) m.places

-- The tests of an opening, in their order: those of the sheet, and those of the catalogue.
abbrev pub tests : Meaning → Sheet → List (Option Fault)
tests m s = sheet_tests s ++ catalogue_tests m s

-- The first fault that tests found.
abbrev pub first_fault : List (Option Fault) → Option Fault
first_fault [] = None
first_fault (Some f ∷ ts) = Some f
first_fault (None ∷ ts) = first_fault ts

-- The first fault among tests, or what comes after them.
abbrev pub after_tests : {X : Type 0} → Option Fault → X → Result X Fault
after_tests (Some f) x = Err f
after_tests None x = Ok x

-- That tests pass, or the first fault among them.
abbrev pub checked : List (Option Fault) → Result (Unit {0}) Fault
checked ts = after_tests (first_fault ts) tt

-- The fault of an opening, if any: that of the first test that finds one.
unfoldable pub opening : Meaning → Sheet → Option Fault
opening m s = first_fault (tests m s)
