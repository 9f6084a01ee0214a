-- What tables of a job in memory state. Assumes nothing.
use Rattle.std.specs.Prelude.{ℕ, ◌+◌, ◌*◌, List, map, length, take, ℤ, Result, if◌then◌else◌, nat_lt}
use Rattle.std.specs.List.{range_with_len}
use Rattle.rules.specs.declared.refusals.Refusal.{Refusal}
use Rattle.rules.specs.Numbers.{number_at}
use Rattle.catalogue.specs.declared.rung.Rung.{Rung}
use Rattle.catalogue.specs.declared.ladder.LadderPlace.{LadderPlace}
use Rattle.catalogue.specs.declared.ladder.Ladder.{Ladder}
use Rattle.catalogue.specs.declared.listed.ListedPlace.{ListedPlace}
use Rattle.catalogue.specs.declared.listed.Listing.{Listing}
use Rattle.catalogue.specs.Listed.{behind, place_told, version_told, with_first_version, with_next_version}
use Rattle.jobfile.specs.Stated.{RungStated, LadderStated, PlaceStated}

-- The rungs in a table, of which so many are in use.
abbrev pub rungs_of : ℕ → List Rung → List RungStated
rungs_of rows gs = map (λ g. record { base = g.base; step = g.step }) (take rows gs)

-- A place of a ladder with so many rows.
abbrev pub ladder_of_place : ℕ → LadderPlace → LadderStated
ladder_of_place rows p = record { count = p.count; rungs = rungs_of rows p.rungs }

-- The places of a ladder.
abbrev pub ladders_of : Ladder → List LadderStated
ladders_of l = map (ladder_of_place l.rows) l.places.items

-- The amounts in the version field that begins at a byte.
abbrev pub amounts_at : List ℕ → ℕ → ℕ → List ℤ
amounts_at bs rows start = map (λ row. number_at bs (start + 4 + 4 * row)) (range_with_len 0 rows)

-- The versions of a listed place, whose fields lie one after another.
abbrev pub versions_of : List ℕ → ℕ → ListedPlace → PlaceStated
versions_of bs rows p = map (λ before. amounts_at bs rows (behind rows p before)) (range_with_len 0 p.count)

-- The places of a listing over these bytes.
abbrev pub listed_of : List ℕ → Listing → List PlaceStated
listed_of bs l = map (versions_of bs l.rows) l.places.items

-- The places with one version more of a place: of the next one, whose field begins at a byte, or of the last one.
abbrev pub with_version : List ListedPlace → ℕ → ℕ → List ListedPlace
with_version places q start = if nat_lt (length places) q then with_first_version places start else with_next_version places

-- What adding that version answers.
abbrev pub version_added : ℕ → ℕ → List ListedPlace → ℕ → ℕ → Result (Unit {0}) Refusal
version_added end rows places q start = if nat_lt (length places) q then place_told end rows places start else version_told end rows places
