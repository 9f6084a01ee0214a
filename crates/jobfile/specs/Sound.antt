-- What holds of a job as far as it is read from a file. Assumes nothing.
use Rattle.std.specs.Prelude.{◌≡◌, ℕ, suc, ◌+◌, ◌≤◌, true, false, List, [], length, slice_index_or}
use Rattle.arrayvec.specs.ArrayVec.{array_vec_len}
use Rattle.rules.specs.Bounds.{most_places, greatest_row}
use Rattle.rules.specs.declared.sheets.Sheet.{Sheet}
use Rattle.rules.specs.Sheets.{blank_row, last_row}
use Rattle.catalogue.specs.Listed.{last_listed, next_start}
use Rattle.jobfile.specs.declared.fields.Section.{Section}
use Rattle.jobfile.specs.declared.fields.Section.TheVariants as section
use Rattle.jobfile.specs.declared.job.Job.{Job}
use Rattle.jobfile.specs.Bounds.{most_bytes}
use Rattle.jobfile.specs.Begun.{BeforeOrder}
use Rattle.jobfile.specs.Reading.{early}

-- Both catalogues of a job in memory have the rows of its sheet.
pub record SameRows (j : Job) : Type 0 where
  pub listing : j.listing.rows ≡ suc (last_row j.sheet)
  pub ladder : j.ladder.rows ≡ suc (last_row j.sheet)

-- Behind so many rows, from row 1 on, the table of a sheet is blank.
abbrev pub BlankAfter : ℕ → Sheet → Type 0
BlankAfter rows s = (r : ℕ) → rows ≤ r → slice_index_or s.rows r blank_row ≡ blank_row

-- Past its last place the order of a sheet is blank.
abbrev pub BlankOrder : Sheet → Type 0
BlankOrder s = (p : ℕ) → s.places ≤ p → slice_index_or s.order p 0 ≡ 0

-- What is so of the tables of a job in memory beside what it states: both catalogues have the rows of its sheet, its listing ends where the file does, and past its counts its sheet is blank.
pub record Tables (file : List ℕ) (j : Job) : Type 0 where
  pub same_rows : SameRows j
  pub end : j.listing.end ≡ length file
  pub blank_rows : BlankAfter (last_row j.sheet) j.sheet
  pub blank_order : BlankOrder j.sheet

-- What holds at all times, with so many rows read.
pub record Sound (file : List ℕ) (rows : ℕ) (j : Job) : Type 0 where
  pub short : length file ≤ most_bytes
  pub few_places : j.sheet.places ≤ most_places
  pub few_rows : last_row j.sheet ≤ greatest_row
  pub row_table : length j.sheet.rows ≡ greatest_row
  pub order_table : length j.sheet.order ≡ most_places
  pub rows_read : rows ≤ last_row j.sheet
  pub blank_rows : BlankAfter rows j.sheet
  pub blank_order : BlankOrder j.sheet
  pub same_rows : SameRows j
  pub end : j.listing.end ≡ length file
  pub placed : array_vec_len j.listing.places + array_vec_len j.ladder.places ≤ j.sheet.places

-- No ladder has come, and the fields of the last listed place, if there is one, end at a byte.
pub record ListingEnds (at : ℕ) (j : Job) : Type 0 where
  pub no_ladder : j.ladder.places.items ≡ []
  pub last : 1 ≤ array_vec_len j.listing.places → next_start j.listing.rows (last_listed j.listing.places.items) ≡ at

-- What holds in a section, of which the next field begins at a byte.
pub record HoldsIn (c : Section) (at rows : ℕ) (j : Job) : Type 0 where
  -- nothing that follows the order comes before it
  pub nothing_after : early c ≡ true → BeforeOrder j
  -- all rows come before it
  pub all_rows : early c ≡ false → rows ≡ last_row j.sheet
  -- version fields follow one another
  pub versions : c ≡ section.Versions → ListingEnds at j
