-- What programs show of a job and of its answer. Assumes nothing.
use Rattle.std.specs.Prelude.{ℕ, zero, suc, ◌+◌, List, [], ◌++◌, take, flat_map, codes, decimal, ℤ, Some, None, Ok, Err, Option, Result}
use Rattle.std.specs.Fmt.{signed_decimal}
use Rattle.std.specs.List.{enumerate_from}
use Rattle.rules.specs.declared.refusals.Refusal.{Refusal}
use Rattle.rules.specs.declared.records.Request.{Request}
use Rattle.rules.specs.declared.sheets.Row.{Row}
use Rattle.rules.specs.declared.sheets.Sheet.{Sheet}
use Rattle.rules.specs.Catalogues.{Meaning, amount_told}
use Rattle.rules.specs.Refusals.{refusal_number}
use Rattle.rules.specs.Sheets.{order_of}
use Rattle.rules.specs.Settings.{versions_in}
use Rattle.exhaustive.specs.declared.found.Found.{Found}

-- The texts of so many numbers, from 0 on, one after the other.
abbrev pub texts_below : (ℕ → List ℕ) → ℕ → List ℕ
texts_below text zero = []
texts_below text (suc k) = texts_below text k ++ text k

-- Numbers, each behind a space.
abbrev pub numbers_text : List ℕ → List ℕ
numbers_text = flat_map (λ n. codes " " ++ decimal n)

-- The line of a row, which has the number above its index.
abbrev pub row_text : ℕ × Row → List ℕ
row_text p = codes "ROW " ++ decimal (p.0 + 1) ++ codes " KIND " ++ decimal p.1.kind ++ codes " LIMIT " ++ signed_decimal p.1.limit ++ codes "\n"

-- The lines of rows, numbered from 1.
abbrev pub rows_text : List Row → List ℕ
rows_text rows = flat_map row_text (enumerate_from 0 rows)

-- What is shown of a sheet: its counts, its rows in turn from the price on, and its order.
abbrev pub sheet_text : Sheet → List ℕ
sheet_text s =
    codes "JOB " ++ decimal s.places ++ codes " " ++ decimal s.last_row ++ codes "\n" ++
    codes "ROW 0 KIND 1 LIMIT " ++ signed_decimal s.cap ++ codes "\n" ++
    rows_text (take s.last_row s.rows) ++ codes "ORDER" ++ numbers_text (order_of s) ++ codes "\n"

-- The line of a call.
abbrev pub call_text : Request → List ℕ
call_text c = codes "CALL " ++ decimal c.code ++ codes " " ++ decimal c.row ++ codes " " ++ signed_decimal c.number ++ codes "\n"

-- An amount behind a space, and a dash where there is none.
abbrev pub amount_text : Option ℤ → List ℕ
amount_text (Some a) = codes " " ++ signed_decimal a
amount_text None = codes " -"

module _ (m : Meaning) where
  -- The line of a version, its amounts one row after the other, closed to the proofs of texts made of such lines.
  unfoldable pub version_text : ℕ → ℕ → List ℕ
  version_text q v =
      codes "PLACE " ++ decimal q ++ codes " VERSION " ++ decimal v ++ codes " AMOUNTS" ++
      texts_below (λ row. amount_text (amount_told m row q v)) m.rows ++ codes "\n"

  -- The lines of a place's versions.
  abbrev pub place_text : ℕ → List ℕ
  place_text q = texts_below (λ k. version_text q (suc k)) (versions_in m q)

  -- The lines of every place.
  abbrev pub catalogue_text : List ℕ
  catalogue_text = texts_below (λ k. place_text (suc k)) m.places

-- What is shown of an answer to a sheet with so many places: the least price and the versions by place, or none, or why the sheet is refused.
abbrev pub answer_text : ℕ → Result (Option Found) Refusal → List ℕ
answer_text n (Ok (Some f)) = codes "LEAST " ++ signed_decimal f.price ++ numbers_text (take n f.versions)
answer_text n (Ok None) = codes "NONE"
answer_text n (Err e) = codes "REFUSED " ++ decimal (refusal_number e)
