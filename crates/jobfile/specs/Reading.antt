-- How a file is read: the fields in their order, and what a field adds. Assumes nothing.
use Rattle.std.specs.Prelude.{ℕ, zero, suc, ◌+◌, ◌-◌, ◌*◌, Bool, true, false, if◌then◌else◌, ◌&&◌, List, [], ◌∷◌, ◌++◌, length, take, drop, ℤ, pos, Some, None, Ok, Err, Option, Result, ◌==◌, nat_le, nat_lt, slice_index, slice_index_or}
use Rattle.rules.specs.declared.refusals.Fault.{Fault}
use Rattle.rules.specs.declared.refusals.Refusal.{Refusal}
use Rattle.rules.specs.declared.refusals.Refusal.TheVariants.{FileTooLong, FieldCut, TagNotAllowed, WrongLength, CountsDiffer}
use Rattle.rules.specs.Numbers.{number_at}
use Rattle.rules.specs.Refusals.{fault_in}
use Rattle.rules.specs.Openings.{first_fault, after_tests}
use Rattle.jobfile.specs.declared.fields.Field.{Field}
use Rattle.jobfile.specs.declared.fields.Field.TheVariants as field
use Rattle.jobfile.specs.declared.fields.Section.{Section}
use Rattle.jobfile.specs.declared.fields.Section.TheVariants as section
use Rattle.jobfile.specs.Bounds.{most_bytes}
use Rattle.jobfile.specs.Stated.{RungStated, Stated, held, nothing_stated}
use Rattle.jobfile.specs.Writing.{FieldEntry, sheet, row, order, version, ladder, call, field_length}
use Rattle.jobfile.specs.Contents.{content_tests}

-- How far a file is read: its section, and the job as far as it is stated.
pub record Reading : Type 0 where
  pub section : Section
  pub job : Stated

-- Before the first field.
abbrev pub fresh : Reading
fresh = record { section = section.Start; job = nothing_stated }

-- So many numbers, of four bytes each.
unfoldable pub numbers_in : ℕ → List ℕ → List ℤ
numbers_in zero bs = []
numbers_in (suc k) bs = number_at bs 0 ∷ numbers_in k (drop 4 bs)

-- The amount of a row in the body of a version field, with rows up to the last one m.
abbrev pub amount_in : ℕ → List ℕ → ℕ → ℤ
amount_in m bs r = slice_index_or (numbers_in (suc m) (drop 1 bs)) r (pos 0)

-- The numbers of a ladder as rungs, two for each.
abbrev pub rungs_in : List ℤ → List RungStated
rungs_in [] = []
rungs_in (b ∷ []) = []
rungs_in (b ∷ (s ∷ zs)) = record { base = b; step = s } ∷ rungs_in zs

-- The field that a tag announces, and the section after it.
pub record Announced : Type 0 where
  pub field : Field
  pub section : Section

-- A field is announced, and a section follows it.
abbrev pub next : Field → Section → Option Announced
next f c = Some (record { field = f; section = c })

-- What a tag announces in a section, with so many rows read of those up to the last; none where the tag isn't allowed.
abbrev pub announced_with : ℕ → ℕ → Section → ℕ → Option Announced
announced_with rows m section.Start tag = if tag == 1 then next field.Sheet section.Rows else None
announced_with rows m section.Rows tag =
    if tag == 2 && nat_lt rows m then next field.Row section.Rows
    else (if tag == 3 && rows == m then next field.Order section.Versions else None)
announced_with rows m section.Versions tag =
    if tag == 4 then next field.Version section.Versions
    else (if tag == 5 then next field.Ladder section.Ladders else (if tag == 6 then next field.Call section.Calls else None))
announced_with rows m section.Ladders tag =
    if tag == 5 then next field.Ladder section.Ladders else (if tag == 6 then next field.Call section.Calls else None)
announced_with rows m section.Calls tag = if tag == 6 then next field.Call section.Calls else None

-- What a tag announces in a section, after the front of a job.
abbrev pub announced : Stated → Section → ℕ → Option Announced
announced j c tag = announced_with (length j.rows) j.last_row c tag

-- What the body of a field says.
abbrev pub decode : Stated → Field → List ℕ → FieldEntry
decode j field.Sheet bs = sheet (slice_index bs 0) (slice_index bs 1) (number_at bs 2)
decode j field.Row bs = row (record { kind = slice_index bs 0; limit = number_at bs 1 })
decode j field.Order bs = order bs
decode j field.Version bs = version (slice_index bs 0) (numbers_in (suc j.last_row) (drop 1 bs))
decode j field.Ladder bs = ladder (slice_index bs 0) (record { count = slice_index bs 1; rungs = rungs_in (numbers_in (2 * suc j.last_row) (drop 2 bs)) })
decode j field.Call bs = call (record { code = slice_index bs 0; row = slice_index bs 1; number = number_at bs 2 })

-- The job with what a field adds; a sheet and an order have nothing after them yet.
abbrev pub with_entry : Stated → FieldEntry → Stated
with_entry j (sheet n m cap) = record { places = n; last_row = m; cap = cap; rows = []; order = []; listed = []; ladders = []; calls = [] }
with_entry j (row r) =
    record { places = j.places; last_row = j.last_row; cap = j.cap; rows = j.rows ++ (r ∷ []); order = j.order; listed = j.listed; ladders = j.ladders; calls = j.calls }
with_entry j (order ps) =
    record { places = j.places; last_row = j.last_row; cap = j.cap; rows = j.rows; order = ps; listed = []; ladders = []; calls = [] }
with_entry j (version q zs) =
    record {
      places = j.places;
      last_row = j.last_row;
      cap = j.cap;
      rows = j.rows;
      order = j.order;
      listed = take (q - 1) j.listed ++ ((held j q ++ (zs ∷ [])) ∷ []);
      ladders = j.ladders;
      calls = j.calls;
    }
with_entry j (ladder q l) =
    record { places = j.places; last_row = j.last_row; cap = j.cap; rows = j.rows; order = j.order; listed = j.listed; ladders = j.ladders ++ (l ∷ []); calls = j.calls }
with_entry j (call r) =
    record { places = j.places; last_row = j.last_row; cap = j.cap; rows = j.rows; order = j.order; listed = j.listed; ladders = j.ladders; calls = j.calls ++ (r ∷ []) }

-- What follows a step that may be refused.
abbrev pub and_then : {X Y : Type 0} → Result X Fault → (X → Result Y Fault) → Result Y Fault
and_then (Ok x) f = f x
and_then (Err e) f = Err e

-- A fault of the file that says only where it was met.
abbrev pub refuse : {X : Type 0} → Refusal → ℕ → Result X Fault
refuse e at = Err (fault_in e at 0 0 0)

-- A field that was read: how many bytes it has, and how far the file is read then.
pub record FieldRead : Type 0 where
  pub size : ℕ
  pub reading : Reading

-- The rest of a field, once its tag is known: its length, its body, and what it says.
abbrev pub read_rest : Stated → Announced → ℕ → List ℕ → ℕ → Result FieldRead Fault
read_rest j p len tail at =
    let e = decode j p.field (take len tail) in
    let said = after_tests (first_fault (content_tests j e at)) (record { size = 3 + len; reading = record { section = p.section; job = with_entry j e } }) in
    if len == field_length j p.field then (if nat_le len (length tail) then said else refuse FieldCut at) else refuse WrongLength at

-- A tag that isn't allowed, or the rest of its field.
abbrev pub read_announced : Stated → Option Announced → ℕ → List ℕ → ℕ → Result FieldRead Fault
read_announced j None len tail at = refuse TagNotAllowed at
read_announced j (Some p) len tail at = read_rest j p len tail at

-- The field that begins at a byte.
abbrev pub read_field : Reading → List ℕ → ℕ → Result FieldRead Fault
read_field s bs at =
    if nat_le 3 (length bs)
    then read_announced s.job (announced s.job s.section (slice_index bs 0)) (slice_index bs 1 * 256 + slice_index bs 2) (drop 3 bs) at
    else refuse FieldCut at

-- The fields from a byte on, of which there are no more than a number.
abbrev pub read_fields : ℕ → Reading → List ℕ → ℕ → Result Reading Fault
read_fields zero s bs at = Ok s
read_fields (suc most) s bs at =
    if length bs == 0 then Ok s else and_then (read_field s bs at) (λ p. read_fields most p.reading (drop p.size bs) (at + p.size))

-- The order field hasn't come yet.
abbrev pub early : Section → Bool
early section.Start = true
early section.Rows = true
early section.Versions = false
early section.Ladders = false
early section.Calls = false

-- At the end of the file: the order has come, and each place has its versions.
abbrev pub finish : Reading → ℕ → Result Stated Fault
finish s at =
    let found = length s.job.listed + length s.job.ladders in
    if early s.section then refuse TagNotAllowed at
    else (if found == s.job.places then Ok s.job else Err (fault_in CountsDiffer 0 found 0 (suc s.job.last_row)))

-- What a file says, or the first fault in it.
unfoldable pub read : List ℕ → Result Stated Fault
read bs =
    if nat_le (length bs) most_bytes then and_then (read_fields (length bs) fresh bs 0) (λ s. finish s (length bs)) else refuse FileTooLong most_bytes
