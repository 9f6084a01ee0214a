-- What a refusal of a file says. Nothing here knows of a reader. Assumes nothing.
use Rattle.std.specs.Prelude.{◌≡◌, ℕ, suc, ◌+◌, ◌*◌, ◌<◌, ◌≤◌, List, [], ◌∷◌, ◌++◌, length, take, Some, None, Option, ◌≢◌, FitsSigned, slice_index, unsigned_abs}
use Rattle.std.specs.Int.{w32}
use Rattle.std.specs.List.{AllByRecursion}
use Rattle.rules.specs.declared.refusals.Fault.{Fault}
use Rattle.rules.specs.declared.refusals.Refusal.TheVariants.{FileTooLong, FieldCut, TagNotAllowed, WrongLength, CountsDiffer}
use Rattle.rules.specs.Bounds.{most_places, greatest_row, greatest_limit}
use Rattle.rules.specs.Refusals.{fault_in}
use Rattle.rules.specs.Sheets.{EachOnce}
use Rattle.jobfile.specs.declared.fields.Field.{Field}
use Rattle.jobfile.specs.declared.fields.Field.TheVariants as field
use Rattle.jobfile.specs.Bounds.{most_bytes, most_calls}
use Rattle.jobfile.specs.Stated.{Stated, nothing_stated}
use Rattle.jobfile.specs.Writing.{FieldEntry, field_of, tag_of, numbers, field_length, field_bytes, bytes_of, early_entries, entries}
use Rattle.jobfile.specs.Validity.{ValidRow, ValidPlace, ValidLadder, ValidCall}
use Rattle.jobfile.specs.Contents.{content_tests}

-- The counts and the cap of a sheet keep their bounds.
pub record CountsGood (j : Stated) : Type 0 where
  pub some_place : 1 ≤ j.places
  pub few_places : j.places ≤ most_places
  pub few_rows : j.last_row ≤ greatest_row
  pub cap : unsigned_abs j.cap ≤ greatest_limit

-- A job up to its rows, of which some may be missing, keeps its bounds so far.
pub record Early (j : Stated) : Type 0 where
  pub counts : CountsGood j
  pub row_count : length j.rows ≤ j.last_row
  pub rows : AllByRecursion ValidRow j.rows

-- A job up to its order, its places and its calls, of which some may be missing, keeps its bounds so far; calls may come while places are missing.
pub record Late (j : Stated) : Type 0 where
  pub counts : CountsGood j
  pub row_count : length j.rows ≡ j.last_row
  pub rows : AllByRecursion ValidRow j.rows
  pub order : EachOnce j.places j.order
  pub place_count : length j.listed + length j.ladders ≤ j.places
  pub listed : AllByRecursion (ValidPlace j.last_row) j.listed
  pub ladders : AllByRecursion (ValidLadder j.last_row) j.ladders
  pub few_calls : length j.calls ≤ most_calls
  pub calls : AllByRecursion ValidCall j.calls

-- How far the front of a job goes: not even to its sheet, up to its sheet or some row, or up to its order or beyond.
pub data Extent : Type 0 where
  nothing : Extent
  to_rows : Extent
  past_order : Extent

-- The front of a job keeps the bounds of jobs as far as it goes.
abbrev pub Front : Extent → Stated → Type 0
Front nothing j = j ≡ nothing_stated
Front to_rows j = Early j
Front past_order j = Late j

-- The fields of that front.
abbrev pub so_far : Extent → Stated → List FieldEntry
so_far nothing j = []
so_far to_rows j = early_entries j
so_far past_order j = entries j

-- A field may come next, by rising tag.
pub data MayFollow (j : Stated) : Extent → Field → Type 0 where
  -- first the sheet
  sheet_first : MayFollow j nothing field.Sheet
  -- then a row while rows are missing
  row_missing : length j.rows < j.last_row → MayFollow j to_rows field.Row
  -- and the order when none is
  rows_there : length j.rows ≡ j.last_row → MayFollow j to_rows field.Order
  -- then a version, before all ladders and calls
  no_later : j.ladders ≡ [] → j.calls ≡ [] → MayFollow j past_order field.Version
  -- a ladder, before all calls
  no_call : j.calls ≡ [] → MayFollow j past_order field.Ladder
  -- and a call
  any_call : MayFollow j past_order field.Call

-- A fault is the first among tests: those before it found nothing.
pub record FirstFailing (ts : List (Option Fault)) (f : Fault) : Type 0 where
  pub before : List (Option Fault)
  pub after : List (Option Fault)
  pub are : ts ≡ before ++ (Some f ∷ after)
  pub passed : AllByRecursion (λ t. t ≡ None) before

-- The tag of a field, as its head gives it.
abbrev pub tag_in : List ℕ → ℕ
tag_in bs = slice_index bs 0

-- The length of a field's body, as its head gives it.
abbrev pub length_in : List ℕ → ℕ
length_in bs = slice_index bs 1 * 256 + slice_index bs 2

-- At the front of these bytes is a whole head, with the tag of a field that may come there.
pub record Begins (x : Extent) (j : Stated) (bs : List ℕ) (f : Field) : Type 0 where
  pub whole : 3 ≤ length bs
  pub may : MayFollow j x f
  pub tag : tag_in bs ≡ tag_of f

-- The field at the front of these bytes, which begins at a byte after the front of a job, fails a test, and none before it.
pub data FieldFails (x : Extent) (j : Stated) (bs : List ℕ) (at : ℕ) : Fault → Type 0 where
  -- the head is cut
  head_cut : 1 ≤ length bs → length bs < 3 → FieldFails x j bs at (fault_in FieldCut at 0 0 0)
  -- no field that may come there has the tag
  tag_wrong : 3 ≤ length bs → ((f : Field) → MayFollow j x f → tag_in bs ≢ tag_of f) → FieldFails x j bs at (fault_in TagNotAllowed at 0 0 0)
  -- the length isn't the field's
  length_wrong : (f : Field) → Begins x j bs f → (length_in bs ≢ field_length j f) → FieldFails x j bs at (fault_in WrongLength at 0 0 0)
  -- the body is cut
  body_cut : (f : Field) → Begins x j bs f → length_in bs ≡ field_length j f → length bs < 3 + length_in bs → FieldFails x j bs at (fault_in FieldCut at 0 0 0)
  -- the field is the writing of something whose contents fail a test
  contents_wrong : {f : Fault} (e : FieldEntry) → Begins x j bs (field_of e) → length_in bs ≡ field_length j (field_of e) → take (3 + length_in bs) bs ≡ field_bytes e → AllByRecursion (FitsSigned w32) (numbers e) → FirstFailing (content_tests j e at) f → FieldFails x j bs at f

-- Why a file is refused with a fault.
pub data Refused : List ℕ → Fault → Type 0 where
  -- it is too long
  too_long : {bs : List ℕ} → most_bytes < length bs → Refused bs (fault_in FileTooLong most_bytes 0 0 0)
  -- it isn't too long, up to a byte it is the writing of the front of a job, and the field that begins there fails a test
  at_field : {f : Fault} (x : Extent) (j : Stated) (bs : List ℕ) → Front x j → length (bytes_of (so_far x j) ++ bs) ≤ most_bytes → FieldFails x j bs (length (bytes_of (so_far x j))) f → Refused (bytes_of (so_far x j) ++ bs) f
  -- it is the writing of the front of a job, and ends before the order
  no_order : (x : Extent) (j : Stated) → Front x j → x ≢ past_order → Refused (bytes_of (so_far x j)) (fault_in TagNotAllowed (length (bytes_of (so_far x j))) 0 0 0)
  -- it is the writing of a job in which places are missing
  places_missing : (j : Stated) → Late j → (length j.listed + length j.ladders ≢ j.places) → Refused (bytes_of (entries j)) (fault_in CountsDiffer 0 (length j.listed + length j.ladders) 0 (suc j.last_row))
