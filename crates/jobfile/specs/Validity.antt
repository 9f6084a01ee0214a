-- What makes a stated job valid, and when a file states one. Assumes nothing.
use Rattle.std.specs.Prelude.{◌≡◌, ℕ, suc, ◌+◌, ◌^◌, ◌<◌, ◌≤◌, List, length, ℤ, FitsSigned, unsigned_abs}
use Rattle.std.specs.Int.{w32}
use Rattle.std.specs.List.{AllByRecursion}
use Rattle.rules.specs.declared.kinds.Kind.{Kind}
use Rattle.rules.specs.declared.records.Request.{Request}
use Rattle.rules.specs.declared.sheets.Row.{Row}
use Rattle.rules.specs.Bounds.{most_places, greatest_row, most_versions, greatest_amount, greatest_limit}
use Rattle.rules.specs.Joinings.{kind_number}
use Rattle.rules.specs.Catalogues.{rung}
use Rattle.rules.specs.Sheets.{EachOnce}
use Rattle.rules.specs.Calls.{Call}
use Rattle.rules.specs.Records.{request_of}
use Rattle.jobfile.specs.Bounds.{most_calls}
use Rattle.jobfile.specs.Stated.{LadderStated, PlaceStated, Stated}
use Rattle.jobfile.specs.Writing.{rung_numbers, encode}

-- A row has the number of a kind, and a limit within the bound.
pub record ValidRow (r : Row) : Type 0 where
  pub kind : (k : Kind) × (kind_number k ≡ r.kind)
  pub limit : unsigned_abs r.limit ≤ greatest_limit

-- A version has an amount for each row, within the bound.
pub record ValidVersion (m : ℕ) (zs : List ℤ) : Type 0 where
  pub each_row : length zs ≡ suc m
  pub amounts : AllByRecursion (λ z. unsigned_abs z ≤ greatest_amount) zs

-- A listed place has a version, and no more than a place may have.
pub record ValidPlace (m : ℕ) (vs : PlaceStated) : Type 0 where
  pub some : 1 ≤ length vs
  pub few : length vs ≤ most_versions
  pub versions : AllByRecursion (ValidVersion m) vs

-- A ladder has versions, as many as a place may have, a rung of 32-bit numbers for each row, and every amount within the bound.
pub record ValidLadder (m : ℕ) (l : LadderStated) : Type 0 where
  pub some : 1 ≤ l.count
  pub few : l.count ≤ most_versions
  pub each_row : length l.rungs ≡ suc m
  pub fit : AllByRecursion (FitsSigned w32) (rung_numbers l.rungs)
  pub amounts : (v : ℕ) → 1 ≤ v → v ≤ l.count → AllByRecursion (λ g. unsigned_abs (rung g.base g.step v) ≤ greatest_amount) l.rungs

-- A call is asked for as calls are, with a row of one byte and a number of 32 bits.
pub record ValidCall (r : Request) : Type 0 where
  pub asks : (c : Call) × (r ≡ request_of c)
  pub row : r.row < 2 ^ 8
  pub number : FitsSigned w32 r.number

-- A job that can be stated: its counts, cap, rows, order, places and calls keep the bounds.
pub record Valid (j : Stated) : Type 0 where
  pub some_place : 1 ≤ j.places
  pub few_places : j.places ≤ most_places
  pub few_rows : j.last_row ≤ greatest_row
  pub cap : unsigned_abs j.cap ≤ greatest_limit
  pub row_count : length j.rows ≡ j.last_row
  pub rows : AllByRecursion ValidRow j.rows
  pub order : EachOnce j.places j.order
  pub place_count : length j.listed + length j.ladders ≡ j.places
  pub listed : AllByRecursion (ValidPlace j.last_row) j.listed
  pub ladders : AllByRecursion (ValidLadder j.last_row) j.ladders
  pub few_calls : length j.calls ≤ most_calls
  pub calls : AllByRecursion ValidCall j.calls

-- A file states a job: the job is valid, and the file is its writing.
abbrev pub States : List ℕ → Stated → Type 0
States bs j = Valid j × (bs ≡ encode j)
