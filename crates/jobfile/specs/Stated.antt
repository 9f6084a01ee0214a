-- A job as a file states it. Nothing here knows of bytes or of a reader. Assumes nothing.
use Rattle.std.specs.Prelude.{ℕ, ◌-◌, List, [], ℤ, pos, slice_index_or}
use Rattle.rules.specs.declared.records.Request.{Request}
use Rattle.rules.specs.declared.sheets.Row.{Row}
use Rattle.rules.specs.Catalogues.{rung}

-- A row of a ladder: its base and its step.
pub record RungStated : Type 0 where
  pub base : ℤ
  pub step : ℤ

-- A place with a ladder: how many versions it has, and a rung for each row.
pub record LadderStated : Type 0 where
  pub count : ℕ
  pub rungs : List RungStated

-- A place with listed versions: the amounts of each version, by row.
abbrev pub PlaceStated : Type 0
PlaceStated = List (List ℤ)

-- A job as stated: counts, cap, rows and order; the listed places and then those with ladders; and the calls.
pub record Stated : Type 0 where
  pub places : ℕ
  -- rows are numbered from 0, the price, to this
  pub last_row : ℕ
  pub cap : ℤ
  -- the rows from row 1 on
  pub rows : List Row
  pub order : List ℕ
  pub listed : List PlaceStated
  pub ladders : List LadderStated
  pub calls : List Request

-- A job of which nothing is stated.
abbrev pub nothing_stated : Stated
nothing_stated = record { places = 0; last_row = 0; cap = pos 0; rows = []; order = []; listed = []; ladders = []; calls = [] }

-- The versions of a place, as far as they are stated.
abbrev pub held : Stated → ℕ → PlaceStated
held j q = slice_index_or j.listed (q - 1) []

-- The rung of a row that a ladder does not have.
abbrev pub no_rung : RungStated
no_rung = record { base = pos 0; step = pos 0 }

-- The amount of a row in a version of a ladder, by its rungs.
abbrev pub rung_amount : List RungStated → ℕ → ℕ → ℤ
rung_amount gs v r = rung (slice_index_or gs r no_rung).base (slice_index_or gs r no_rung).step v
