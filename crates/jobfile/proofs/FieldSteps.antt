-- A field, by its head and what its rest comes to. Assumes nothing.
use Rattle.std.proofs.Common.{◌≡◌, ℕ, ◌+◌, ◌-◌, ◌*◌, ◌≤◌, Bool, cond, leb, List, [], length, get_or, take, drop, Some, Result, sym, refl, ap, ◌∙◌, ap₂, inl, inr, arith}
use Rattle.std.proofs.lemmas.List.{length-take-le, take_rest}
use Rattle.std.proofs.lemmas.Bool.{cond-true, le-leb}
use Rattle.rules.specs.declared.refusals.Fault.{Fault}
use Rattle.rules.specs.Sheets.{last_row, order_of}
use Rattle.jobfile.specs.declared.fields.Field.{Field}
use Rattle.jobfile.specs.declared.fields.Field.TheVariants as field
use Rattle.jobfile.specs.declared.fields.Section.{Section}
use Rattle.jobfile.specs.declared.reader.Reader.{Reader}
use Rattle.jobfile.specs.declared.job.Job.{Job}
use Rattle.jobfile.specs.CallTables.{calls_of}
use Rattle.jobfile.specs.InMemory.{ladders_of, listed_of}
use Rattle.jobfile.specs.Stated.{Stated}
use Rattle.jobfile.specs.Reading.{Announced, FieldRead, announced_with, early, read_announced, read_field, read_rest}
use Rattle.jobfile.proofs.Announcing.{announced_as}
use Rattle.jobfile.specs.Readers.{SameButSection, field_between, front_job, front_of, told}

-- what is left of a file from a byte on
pub from_byte : (file : List ℕ) (n at : ℕ) → n ≡ at → take (length file - n) (drop n file) ≡ drop at file
from_byte file n at same = take_rest file n ∙ ap (λ k. drop k file) same

-- the front of a job, by what a reader has of it and the order
abbrev front : List ℕ → ℕ → Job → List ℕ → Stated
front file rows j order =
    record {
      places = j.sheet.places;
      last_row = j.sheet.last_row;
      cap = j.sheet.cap;
      rows = take rows j.sheet.rows;
      order = order;
      listed = listed_of file j.listing;
      ladders = ladders_of j.ladder;
      calls = calls_of j.calls;
    }

-- what the rest of a field comes to, where only the order's own field may meet another order before it
abbrev pub with_order : Stated → List ℕ → Stated
with_order j order = record { places = j.places; last_row = j.last_row; cap = j.cap; rows = j.rows; order = order; listed = j.listed; ladders = j.ladders; calls = j.calls }

any_order : (j : Stated) (xs ys : List ℕ) (f : Field) (c : Section) (size : ℕ) (tail : List ℕ) (at : ℕ) → f ≡ field.Order → read_rest (with_order j xs) (record { field = f; section = c }) size tail at ≡ read_rest (with_order j ys) (record { field = f; section = c }) size tail at
any_order j xs ys field.Order c size tail at e = refl
any_order j xs ys field.Sheet c size tail at e = absurd (cc)
any_order j xs ys field.Row c size tail at e = absurd (cc)
any_order j xs ys field.Version c size tail at e = absurd (cc)
any_order j xs ys field.Ladder c size tail at e = absurd (cc)
any_order j xs ys field.Call c size tail at e = absurd (cc)

-- a field by its head, where the reader r has entered the section after it and is s then
module _ (r s : Reader) (f : Field) (size : ℕ) (tail : List ℕ) (same : SameButSection r s) where
  abbrev p : Announced
  p = record { field = f; section = s.section }

  rest_same : (tag : ℕ) → announced_with r.rows (last_row r.job.sheet) r.section tag ≡ Some p → read_rest (front_job s) p size tail s.at ≡ read_rest (front_job r) p size tail r.at
  rest_same tag said =
      let order : Bool → Job → List ℕ = λ b j. cond b [] (order_of j.sheet) in
      let rest : List ℕ → ℕ → ℕ → Job → Bool → Result FieldRead Fault = λ file at rows j b. read_rest (front file rows j (order b j)) p size tail at in
      let first : rest s.file.now s.at s.rows s.job (early s.section) ≡ rest r.file.now r.at r.rows r.job (early s.section) =
      ap (λ b. rest b.now s.at s.rows s.job (early s.section)) same.file
      ∙ ap₂ (λ at rows. rest r.file.now at rows s.job (early s.section)) same.at same.rows
      ∙ ap (λ j. rest r.file.now r.at r.rows j (early s.section)) same.job in
      first ∙ elim ((announced_as r.rows (last_row r.job.sheet) tag r.section p said).1) [
        | inl e ↦ any_order (front_job r) (order (early s.section) r.job) (order (early r.section) r.job) f s.section size tail r.at e
        | inr e ↦ ap (λ b. rest r.file.now r.at r.rows r.job b) e
      ]

  pub field_step : (after : Reader) (bs : List ℕ) (answer : Result (Unit {0}) Fault) → 3 ≤ length bs → size ≡ get_or bs 1 0 * 256 + get_or bs 2 0 → tail ≡ drop 3 bs → announced_with r.rows (last_row r.job.sheet) r.section (get_or bs 0 0) ≡ Some p → told answer (field_between s after) ≡ read_rest (front_job s) p size tail s.at → told answer (field_between r after) ≡ read_field (front_of r) bs r.at
  field_step after bs answer long length-is tail-is said e =
      let counted = length-take-le r.rows r.job.sheet.rows (omega (arith, r.sound.rows_read, r.sound.row_table, r.sound.few_rows)) in
      let announced = ap (λ k. announced_with k (last_row r.job.sheet) r.section (get_or bs 0 0)) counted ∙ said in
      ap (λ at. told answer (record { size = after.at - at; reading = front_of after })) (sym same.at)
      ∙ e
      ∙ rest_same (get_or bs 0 0) said
      ∙ ap₂ (λ n t. read_rest (front_job r) p n t r.at) length-is tail-is
      ∙ sym (ap (λ o. read_announced (front_job r) o (get_or bs 1 0 * 256 + get_or bs 2 0) (drop 3 bs) r.at) announced)
      ∙ sym (cond-true (leb 3 (length bs)) _ _ (le-leb 3 (length bs) long))
