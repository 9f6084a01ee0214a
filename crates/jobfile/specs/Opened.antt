-- The sheet and the catalogue of a stated job. Assumes nothing.
use Rattle.std.specs.Prelude.{ℕ, suc, ◌+◌, ◌-◌, if◌then◌else◌, [], length, pos, nat_le, slice_index_or}
use Rattle.rules.specs.declared.sheets.Sheet.{Sheet}
use Rattle.rules.specs.Catalogues.{Meaning}
use Rattle.jobfile.specs.Stated.{LadderStated, Stated, held, rung_amount}

-- The sheet of a stated job.
abbrev pub stated_sheet : Stated → Sheet
stated_sheet j = record { places = j.places; last_row = j.last_row; cap = j.cap; rows = j.rows; order = j.order }

-- A place without a ladder.
abbrev pub no_ladder : LadderStated
no_ladder = record { count = 0; rungs = [] }

-- The ladder of a place behind the listed ones.
abbrev pub ladder_of : Stated → ℕ → LadderStated
ladder_of j q = slice_index_or j.ladders (q - suc (length j.listed)) no_ladder

-- The meaning of the catalogue of a stated job: the listed places, and then those with ladders.
abbrev pub stated_meaning : Stated → Meaning
stated_meaning j =
    record {
      places = length j.listed + length j.ladders;
      rows = suc j.last_row;
      versions = λ q. if nat_le q (length j.listed) then length (held j q) else (ladder_of j q).count;
      amount = λ row q v. if nat_le q (length j.listed) then slice_index_or (slice_index_or (held j q) (v - 1) []) row (pos 0) else rung_amount (ladder_of j q).rungs v row;
    }
