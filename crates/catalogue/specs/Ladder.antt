-- The ladder catalogue: in each row a place's amounts rise, or fall, by one step from version to version. Assumes nothing.
use Rattle.std.specs.Prelude.{ℕ, ◌-◌, Bool, ◌&&◌, List, [], ◌∷◌, ◌++◌, if◌then◌else◌, length, pos, Result, nat_le, nat_lt, slice_index_or}
use Rattle.std.proofs.Common.{arith}
use Rattle.rules.specs.declared.refusals.Refusal.{Refusal}
use Rattle.rules.specs.declared.refusals.Refusal.TheVariants.{PlaceOutOfTurn, VersionsOutside}
use Rattle.rules.specs.Bounds.{most_places, most_versions}
use Rattle.rules.specs.Catalogues.{Meaning, rung}
use Rattle.rules.specs.Refusals.{done_if}
use Rattle.catalogue.specs.declared.rung.Rung.{Rung}
use Rattle.catalogue.specs.declared.ladder.LadderPlace.{LadderPlace}

-- The rung of a row that has none.
abbrev pub no_rung : Rung
no_rung = record { base = pos 0; step = pos 0; near = (omega arith, omega arith) }

-- A place that there is not.
abbrev pub no_place : LadderPlace
no_place = record { count = 0; rungs = [] }

-- The place of a number, from 1 up.
abbrev pub ladder_at : List LadderPlace → ℕ → LadderPlace
ladder_at places q = slice_index_or places (q - 1) no_place

-- The rung of a row at a place.
abbrev pub rung_at : List LadderPlace → ℕ → ℕ → Rung
rung_at places row q = slice_index_or (ladder_at places q).rungs row no_rung

-- A ladder with so many places can have one more with so many versions.
abbrev pub has_room : ℕ → ℕ → Bool
has_room filled count = nat_lt filled most_places && (nat_le 1 count && nat_le count most_versions)

-- What adding a place with so many versions answers: one too many comes out of turn.
abbrev pub room_told : List LadderPlace → ℕ → Result (Unit {0}) Refusal
room_told places count =
    done_if (has_room (length places) count) (if nat_lt (length places) most_places then VersionsOutside else PlaceOutOfTurn)

-- The places with one more behind them.
abbrev pub with_place : List LadderPlace → ℕ → List Rung → List LadderPlace
with_place places count rungs = places ++ record { count = count; rungs = rungs } ∷ []

-- The meaning of a ladder with so many rows and these places.
abbrev pub ladder_meaning : ℕ → List LadderPlace → Meaning
ladder_meaning rows places = record {
  places = length places;
  rows = rows;
  versions = λ q. (ladder_at places q).count;
  amount = λ row q v. rung (rung_at places row q).base (rung_at places row q).step v;
}
