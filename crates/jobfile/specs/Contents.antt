-- The tests of what a field says, in their order. Nothing here knows of a reader. Assumes nothing.
use Rattle.std.specs.Prelude.{ℕ, suc, ◌+◌, Bool, ◌&&◌, List, [], ◌∷◌, length, ℤ, pos, is_some, Option, ◌==◌, nat_le, nat_lt, slice_index_or, unsigned_abs}
use Rattle.rules.specs.declared.records.Request.{Request}
use Rattle.rules.specs.declared.refusals.Fault.{Fault}
use Rattle.rules.specs.declared.refusals.Refusal.TheVariants.{NoCall, CountOutside, UnknownKind, LimitBeyond, OrderNotOnce, PlaceOutOfTurn, VersionsOutside, AmountBeyond}
use Rattle.rules.specs.Bounds.{most_places, greatest_row, most_versions, greatest_limit}
use Rattle.rules.specs.Joinings.{kind_numbered}
use Rattle.rules.specs.Refusals.{fault_in}
use Rattle.rules.specs.Openings.{each_to, test, contains_all, amount_tests}
use Rattle.rules.specs.Records.{asked}
use Rattle.jobfile.specs.Bounds.{most_calls}
use Rattle.jobfile.specs.Stated.{Stated, held, rung_amount}
use Rattle.jobfile.specs.Writing.{FieldEntry, sheet, row, order, version, ladder, call}

-- A limit within the bound.
abbrev pub limit_good : ℤ → Bool
limit_good z = nat_le (unsigned_abs z) greatest_limit

-- The fault of an amount beyond its bound, in a field that begins at a byte.
abbrev pub amount_fault : ℕ → ℕ → ℕ → ℕ → Fault
amount_fault at q v r = fault_in AmountBeyond at q v r

-- The tests of a sheet: its counts, and its cap.
abbrev pub sheet_tests : ℕ → ℕ → ℤ → ℕ → List (Option Fault)
sheet_tests n m cap at =
    test (nat_le 1 n && (nat_le n most_places && nat_le m greatest_row)) (fault_in CountOutside at 0 0 0) ∷ test (limit_good cap) (fault_in LimitBeyond at 0 0 0) ∷ []

-- The tests of a row: its kind, and its limit.
abbrev pub row_tests : ℕ → ℤ → ℕ → List (Option Fault)
row_tests kind limit at =
    test (is_some (kind_numbered kind)) (fault_in UnknownKind at 0 0 0) ∷ test (limit_good limit) (fault_in LimitBeyond at 0 0 0) ∷ []

-- The test of an order for n places.
abbrev pub order_tests : ℕ → List ℕ → ℕ → List (Option Fault)
order_tests n ps at = test (contains_all n ps) (fault_in OrderNotOnce at 0 0 0) ∷ []

-- The tests of a version of place q, for n places and rows up to m: the place's turn after so many listed places, the room beside the versions it has, and the amounts.
abbrev pub version_tests : ℕ → ℕ → ℕ → ℕ → ℕ → (ℕ → ℤ) → ℕ → List (Option Fault)
version_tests n m listed has q amount at =
    test (nat_le 1 q && (nat_le q n && (nat_le listed q && nat_le q (suc listed)))) (fault_in PlaceOutOfTurn at 0 0 0)
    ∷ test (nat_lt has most_versions) (fault_in VersionsOutside at 0 0 0)
    ∷ amount_tests (suc m) amount (λ r. fault_in AmountBeyond at q (suc has) r)

-- The tests of a ladder of place q, for n places and rows up to m: the place's turn after so many places, the count, and the amounts by version and row.
abbrev pub ladder_tests : ℕ → ℕ → ℕ → ℕ → ℕ → (ℕ → ℕ → ℤ) → ℕ → List (Option Fault)
ladder_tests n m found q count amount at =
    test (q == suc found && nat_le q n) (fault_in PlaceOutOfTurn at 0 0 0)
    ∷ test (nat_le 1 count && nat_le count most_versions) (fault_in VersionsOutside at 0 0 0)
    ∷ each_to (λ v. amount_tests (suc m) (amount v) (λ r. fault_in AmountBeyond at q v r)) count

-- The test of a call after so many calls.
abbrev pub call_tests : ℕ → Request → ℕ → List (Option Fault)
call_tests calls r at = test (nat_lt calls most_calls && is_some (asked r)) (fault_in NoCall at 0 0 0) ∷ []

-- The tests of what a field says, by rising number; the field begins at a byte.
abbrev pub content_tests : Stated → FieldEntry → ℕ → List (Option Fault)
content_tests j (sheet n m cap) at = sheet_tests n m cap at
content_tests j (row r) at = row_tests r.kind r.limit at
content_tests j (order ps) at = order_tests j.places ps at
content_tests j (version q zs) at = version_tests j.places j.last_row (length j.listed) (length (held j q)) q (λ r. slice_index_or zs r (pos 0)) at
content_tests j (ladder q l) at = ladder_tests j.places j.last_row (length j.listed + length j.ladders) q l.count (rung_amount l.rungs) at
content_tests j (call r) at = call_tests (length j.calls) r at
