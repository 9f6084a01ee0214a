-- The listed catalogue: its amounts stand in the bytes of version fields, those of a place one after another. Assumes nothing.
use Rattle.std.specs.Prelude.{ℕ, ◌+◌, ◌-◌, ◌*◌, ◌<◌, Bool, ◌&&◌, List, [], ◌∷◌, ◌++◌, if◌then◌else◌, length, Result, nat_le, nat_lt, slice_index, slice_index_or, slice_set}
use Rattle.rules.specs.declared.refusals.Refusal.{Refusal}
use Rattle.rules.specs.declared.refusals.Refusal.TheVariants.{FieldCut, PlaceOutOfTurn, VersionsOutside}
use Rattle.rules.specs.Bounds.{most_places, most_versions}
use Rattle.rules.specs.Numbers.{number_at}
use Rattle.rules.specs.Catalogues.{Meaning}
use Rattle.rules.specs.Refusals.{done_if}
use Rattle.catalogue.specs.declared.listed.ListedPlace.{ListedPlace}

-- The bytes of a version field: four at its front, and four for each row.
abbrev pub version_width : ℕ → ℕ
version_width rows = 4 + 4 * rows

-- A place that there is not.
abbrev pub no_listed : ListedPlace
no_listed = record { count = 0; start = 0 }

-- The place of a number, from 1 up.
abbrev pub listed_at : List ListedPlace → ℕ → ListedPlace
listed_at places q = slice_index_or places (q - 1) no_listed

-- The versions that a place has so far, and none where there is no such place.
abbrev pub versions_so_far : List ListedPlace → ℕ → ℕ
versions_so_far places q = if nat_le 1 q then (listed_at places q).count else 0

-- The byte behind the fields of so many versions of a place.
abbrev pub behind : ℕ → ListedPlace → ℕ → ℕ
behind rows p count = p.start + count * version_width rows

-- The byte where the amount of a row in a version of a place begins.
abbrev pub amount_start : ℕ → ListedPlace → ℕ → ℕ → ℕ
amount_start rows p row v = behind rows p (v - 1) + 4 + 4 * row

-- The byte where the field of one version more of a place begins.
abbrev pub next_start : ℕ → ListedPlace → ℕ
next_start rows p = behind rows p p.count

-- A version field that begins at a byte does not pass the end.
abbrev pub field_fits : ℕ → ℕ → ℕ → Bool
field_fits end rows start = nat_le (start + version_width rows) end

-- There can be one place more, whose first field begins at a byte.
abbrev pub place_fits : ℕ → ℕ → ℕ → ℕ → Bool
place_fits end rows filled start = nat_lt filled most_places && field_fits end rows start

-- What adding a place answers: one too many comes out of turn.
abbrev pub place_told : ℕ → ℕ → List ListedPlace → ℕ → Result (Unit {0}) Refusal
place_told end rows places start =
    done_if (place_fits end rows (length places) start) (if nat_lt (length places) most_places then FieldCut else PlaceOutOfTurn)

-- A place can have one version more.
abbrev pub version_fits : ℕ → ℕ → ListedPlace → Bool
version_fits end rows p = nat_lt p.count most_versions && field_fits end rows (next_start rows p)

-- The last place.
abbrev pub last_listed : List ListedPlace → ListedPlace
last_listed places = listed_at places (length places)

-- There is a last place, and it can have one version more.
abbrev pub last_fits : ℕ → ℕ → List ListedPlace → Bool
last_fits end rows places = nat_le 1 (length places) && version_fits end rows (last_listed places)

-- What adding a version answers: one before the first place comes out of turn.
abbrev pub version_told : ℕ → ℕ → List ListedPlace → Result (Unit {0}) Refusal
version_told end rows places =
    done_if (last_fits end rows places)
    (if nat_le 1 (length places) then (if nat_lt (last_listed places).count most_versions then FieldCut else VersionsOutside) else PlaceOutOfTurn)

-- The places with one more behind them, which has one version.
abbrev pub with_first_version : List ListedPlace → ℕ → List ListedPlace
with_first_version places start = places ++ record { count = 1; start = start } ∷ []

-- A place with one version more.
abbrev pub grown : ListedPlace → ListedPlace
grown p = record { count = p.count + 1; start = p.start }

-- The places with one version more of the last one.
abbrev pub with_next_version : List ListedPlace → List ListedPlace
with_next_version places = slice_set places (length places - 1) (grown (last_listed places))

-- Each element is a byte.
abbrev pub Bytes : List ℕ → Type 0
Bytes bs = (i : ℕ) → slice_index bs i < 256

-- The meaning of these bytes with so many rows and these places.
abbrev pub listed_meaning : List ℕ → ℕ → List ListedPlace → Meaning
listed_meaning bs rows places = record {
  places = length places;
  rows = rows;
  versions = λ q. (listed_at places q).count;
  amount = λ row q v. number_at bs (amount_start rows (listed_at places q) row v);
}
