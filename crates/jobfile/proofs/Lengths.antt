-- How long the writing of a job can be. Assumes nothing.
use Rattle.std.proofs.Common.{◌≡◌, ℕ, suc, ◌+◌, ◌*◌, ◌≤◌, List, [], ◌∷◌, ◌++◌, map, length, refl, arith, length-append}
use Rattle.std.specs.List.{AllByRecursion}
use Rattle.rules.specs.declared.records.Request.{Request}
use Rattle.rules.specs.declared.sheets.Row.{Row}
use Rattle.rules.specs.Bounds.{greatest_row}
use Rattle.jobfile.specs.Bounds.{longest}
use Rattle.jobfile.specs.Stated.{LadderStated, PlaceStated, Stated}
use Rattle.jobfile.specs.Writing.{FieldEntry, row, order, version, ladder, call, rung_numbers, field_bytes, bytes_of, version_entries, listed_entries, ladder_entries, early_entries, entries}
use Rattle.jobfile.specs.Validity.{ValidVersion, ValidPlace, ValidLadder}
use Rattle.jobfile.specs.Refusing.{Late}
use Rattle.jobfile.proofs.Codec.{length_fours, length_rung_numbers}

-- the bytes of fields one after the other
abbrev size : List FieldEntry → ℕ
size es = length (bytes_of es)

size_one : (e : FieldEntry) (es : List FieldEntry) → size (e ∷ es) ≡ length (field_bytes e) + size es
size_one e es = length-append (field_bytes e) (bytes_of es)

size_join : (es fs : List FieldEntry) → size (es ++ fs) ≡ size es + size fs
size_join [] fs = omega arith
size_join (e ∷ es) fs = omega (arith, size_one e (es ++ fs), size_one e es, size_join es fs)

size_rows : (rs : List Row) → size (map row rs) ≡ 8 * length rs
size_rows [] = refl
size_rows (r ∷ rs) = omega (arith, size_one (row r) (map row rs), size_rows rs)

size_calls : (rs : List Request) → size (map call rs) ≡ 9 * length rs
size_calls [] = refl
size_calls (r ∷ rs) = omega (arith, size_one (call r) (map call rs), size_calls rs)

size_order : (ps : List ℕ) → length (field_bytes (order ps)) ≡ 3 + length ps
size_order ps = omega (arith, length-append ps [])

module _ (m : ℕ) (few : m ≤ greatest_row) where
  size_versions : (q : ℕ) (vs : PlaceStated) → AllByRecursion (ValidVersion m) vs → size (version_entries q vs) ≤ 40 * length vs
  size_versions q [] h = omega arith
  size_versions q (zs ∷ vs) h = omega (arith, size_one (version q zs) (version_entries q vs), length_fours zs, h.0.each_row, few, size_versions q vs h.1)

  size_listed : (q : ℕ) (ps : List PlaceStated) → AllByRecursion (ValidPlace m) ps → size (listed_entries q ps) ≤ 1280 * length ps
  size_listed q [] h = omega arith
  size_listed q (p ∷ ps) h = omega (arith, size_join (version_entries q p) (listed_entries (suc q) ps), size_versions q p h.0.versions, h.0.few, size_listed (suc q) ps h.1)

  size_ladders : (q : ℕ) (ls : List LadderStated) → AllByRecursion (ValidLadder m) ls → size (ladder_entries q ls) ≤ 1280 * length ls
  size_ladders q [] h = omega arith
  size_ladders q (l ∷ ls) h = omega (arith, size_one (ladder q l) (ladder_entries (suc q) ls), length_fours (rung_numbers l.rungs), length_rung_numbers l.rungs, h.0.each_row, few, size_ladders (suc q) ls h.1)

pub size_early : (j : Stated) → length j.rows ≤ greatest_row → size (early_entries j) ≤ 73
size_early j few = omega (arith, size_rows j.rows, few)

pub size_late : (j : Stated) → Late j → size (entries j) ≤ longest
size_late j h =
    let k = suc (length j.listed) in
    omega (
      arith,
      size_join (early_entries j) (order j.order ∷ (listed_entries 1 j.listed ++ (ladder_entries k j.ladders ++ map call j.calls))),
      size_one (order j.order) (listed_entries 1 j.listed ++ (ladder_entries k j.ladders ++ map call j.calls)),
      size_join (listed_entries 1 j.listed) (ladder_entries k j.ladders ++ map call j.calls),
      size_join (ladder_entries k j.ladders) (map call j.calls),
      size_order j.order,
      size_rows j.rows,
      size_calls j.calls,
      size_listed j.last_row h.counts.few_rows 1 j.listed h.listed,
      size_ladders j.last_row h.counts.few_rows k j.ladders h.ladders,
      h.row_count,
      h.counts.few_rows,
      h.counts.few_places,
      h.place_count,
      h.few_calls,
      h.order.0,
    )
