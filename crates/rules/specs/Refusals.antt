-- The numbers of the refusals, and the layers that give them. Assumes nothing.
use Rattle.std.specs.Prelude.{ℕ, Bool, Ok, Err, Result, if◌then◌else◌}
use Rattle.std.specs.Option.{ok_or}
use Rattle.rules.specs.declared.kinds.Kind.{Kind}
use Rattle.rules.specs.Joinings.{kind_numbered}
use Rattle.rules.specs.declared.refusals.Refusal.{Refusal}
use Rattle.rules.specs.declared.refusals.Refusal.TheVariants.{FileTooLong, FieldCut, TagNotAllowed, WrongLength, NoCall, CountOutside, UnknownKind, LimitBeyond, OrderNotOnce, PlaceOutOfTurn, VersionsOutside, CountsDiffer, AmountBeyond, NotInThisState, NoSuchRow, BudgetBeyond, BufferTooShort}
use Rattle.rules.specs.declared.refusals.Fault.{Fault}

-- The number by which a refusal is told.
abbrev pub refusal_number : Refusal → ℕ
refusal_number FileTooLong = 1
refusal_number FieldCut = 2
refusal_number TagNotAllowed = 3
refusal_number WrongLength = 4
refusal_number NoCall = 5
refusal_number CountOutside = 6
refusal_number UnknownKind = 7
refusal_number LimitBeyond = 8
refusal_number OrderNotOnce = 9
refusal_number PlaceOutOfTurn = 10
refusal_number VersionsOutside = 11
refusal_number CountsDiffer = 12
refusal_number AmountBeyond = 13
refusal_number NotInThisState = 14
refusal_number NoSuchRow = 15
refusal_number BudgetBeyond = 16
refusal_number BufferTooShort = 17

-- The layer that tests for it: 1 the file, 2 the sheet, 3 the catalogue, 4 the job.
abbrev pub refusal_layer : Refusal → ℕ
refusal_layer FileTooLong = 1
refusal_layer FieldCut = 1
refusal_layer TagNotAllowed = 1
refusal_layer WrongLength = 1
refusal_layer NoCall = 1
refusal_layer CountOutside = 2
refusal_layer UnknownKind = 2
refusal_layer LimitBeyond = 2
refusal_layer OrderNotOnce = 2
refusal_layer PlaceOutOfTurn = 3
refusal_layer VersionsOutside = 3
refusal_layer CountsDiffer = 3
refusal_layer AmountBeyond = 3
refusal_layer NotInThisState = 4
refusal_layer NoSuchRow = 4
refusal_layer BudgetBeyond = 4
refusal_layer BufferTooShort = 4

-- A fault that was met at a byte of a file, and at a place, version and row of the catalogue.
abbrev pub fault_in : Refusal → ℕ → ℕ → ℕ → ℕ → Fault
fault_in e at q v r =
    record { layer = refusal_layer e; number = refusal_number e; byte = at; place = q; version = v; row = r }

-- A fault that was met at a place, version and row of the catalogue.
abbrev pub fault_at : Refusal → ℕ → ℕ → ℕ → Fault
fault_at e q v r = fault_in e 0 q v r

-- A fault that says nothing of where it was met.
abbrev pub fault : Refusal → Fault
fault e = fault_at e 0 0 0

-- What follows where something holds, and else why not.
abbrev pub where_holds : {X E : Type 0} → Bool → E → Result X E → Result X E
where_holds holds e r = if holds then r else Err e

-- Done where something holds, and else why not.
abbrev pub done_if : {E : Type 0} → Bool → E → Result (Unit {0}) E
done_if holds e = where_holds holds e (Ok tt)

-- The kind that a number stands for; a number that stands for none is refused.
abbrev pub kind_read : ℕ → Result Kind Refusal
kind_read n = ok_or (kind_numbered n) UnknownKind
