-- What a body says, and the body that says it. Assumes nothing.
use Rattle.std.proofs.Common.{◌≡◌, ℕ, suc, ◌+◌, ◌*◌, List, [], ◌∷◌, ◌++◌, length, get_or, drop, ℤ, sym, refl, ap, ◌∙◌, subst, append-nil, arith, w32, SFits}
use Rattle.std.specs.List.{AllByRecursion}
use Rattle.jobfile.specs.declared.fields.Field.{Field}
use Rattle.jobfile.specs.declared.fields.Field.TheVariants as field
use Rattle.jobfile.specs.Stated.{Stated}
use Rattle.rules.specs.Numbers.{number_at}
use Rattle.jobfile.specs.Writing.{fours, rung_numbers, FieldEntry, sheet, row, order, version, ladder, call, field_of, singles, numbers, body}
use Rattle.jobfile.specs.Reading.{numbers_in, rungs_in, field_length, decode}
use Rattle.jobfile.proofs.Codec.{Bytes, byte_at, bytes_drop, number_four, number_drop, fours_back, fours_there, length_fours, length_numbers, rungs_there, rungs_back, length_rungs, length_rung_numbers, number_fits, numbers_fit}

-- an entry has as many numbers as the rows, and an order as many as the places
abbrev pub Shaped : Stated → FieldEntry → Type 0
Shaped j (sheet n m cap) = Unit {0}
Shaped j (row r) = Unit {0}
Shaped j (order ps) = length ps ≡ j.places
Shaped j (version q zs) = length zs ≡ suc j.last_row
Shaped j (ladder q l) = length l.rungs ≡ suc j.last_row
Shaped j (call r) = Unit {0}

-- its single numbers are bytes, and the others fit four bytes
pub record Fits (e : FieldEntry) : Type 0 where
  pub bytes : Bytes (singles e)
  pub long : AllByRecursion (SFits w32) (numbers e)

pub field_decoded : (j : Stated) (f : Field) (bs : List ℕ) → field_of (decode j f bs) ≡ f
field_decoded j field.Sheet bs = refl
field_decoded j field.Row bs = refl
field_decoded j field.Order bs = refl
field_decoded j field.Version bs = refl
field_decoded j field.Ladder bs = refl
field_decoded j field.Call bs = refl

-- one single byte, or two, and then so many numbers
one_back : (k : ℕ) (bs : List ℕ) → Bytes bs → length bs ≡ 1 + 4 * k → (get_or bs 0 0 ∷ []) ++ fours (numbers_in k (drop 1 bs)) ≡ bs
one_back k [] h e = absurd (omega arith)
one_back k (a ∷ bs) h e = ap (λ t. a ∷ t) (fours_back k bs h.1 (omega arith))

two_back : (k : ℕ) (bs : List ℕ) → Bytes bs → length bs ≡ 2 + 4 * k → (get_or bs 0 0 ∷ (get_or bs 1 0 ∷ [])) ++ fours (numbers_in k (drop 2 bs)) ≡ bs
two_back k [] h e = absurd (omega arith)
two_back k (a ∷ []) h e = absurd (omega arith)
two_back k (a ∷ (b ∷ bs)) h e = ap (λ t. a ∷ (b ∷ t)) (fours_back k bs h.1.1 (omega arith))

lone : (bs : List ℕ) → numbers_in 1 bs ≡ number_at bs 0 ∷ []
unfolding numbers_in
lone bs = refl

pub body_decoded : (j : Stated) (f : Field) (bs : List ℕ) → Bytes bs → length bs ≡ field_length j f → body (decode j f bs) ≡ bs
body_decoded j field.Sheet bs h e = let i = two_back 1 bs h e in rw (lone, number_drop) at i
body_decoded j field.Row bs h e = let i = one_back 1 bs h e in rw (lone, number_drop) at i
body_decoded j field.Order bs h e = append-nil bs
body_decoded j field.Version bs h e = one_back (suc j.last_row) bs h (omega arith)
body_decoded j field.Ladder bs h e =
    let k = 2 * suc j.last_row in
    ap (λ zs. (get_or bs 0 0 ∷ (get_or bs 1 0 ∷ [])) ++ fours zs) (rungs_back (suc j.last_row) (numbers_in k (drop 2 bs)) (length_numbers k (drop 2 bs))) ∙ two_back k bs h (omega arith)
body_decoded j field.Call bs h e = let i = two_back 1 bs h e in rw (lone, number_drop) at i

numbers_again : (k : ℕ) (zs : List ℤ) → length zs ≡ k → AllByRecursion (SFits w32) zs → numbers_in k (fours zs) ≡ zs
numbers_again k zs e w = ap (λ i. numbers_in i (fours zs)) (sym e) ∙ fours_there zs w

-- the body of an entry says that entry
pub decoded_body : (j : Stated) (e : FieldEntry) → Shaped j e → Fits e → decode j (field_of e) (body e) ≡ e
decoded_body j (sheet n m z) h w = ap (sheet n m) (number_four z [] w.long.0)
decoded_body j (row r) h w = ap (λ z. row (record { kind = r.kind; limit = z })) (number_four r.limit [] w.long.0)
decoded_body j (order ps) h w = ap order (append-nil ps)
decoded_body j (version q zs) h w = ap (version q) (numbers_again (suc j.last_row) zs h w.long)
decoded_body j (ladder q l) h w =
    ap (λ gs. ladder q (record { count = l.count; rungs = gs }))
    (ap rungs_in (numbers_again (2 * suc j.last_row) (rung_numbers l.rungs) (length_rung_numbers l.rungs ∙ ap (λ k. 2 * k) h) w.long) ∙ rungs_there l.rungs)
decoded_body j (call r) h w = ap (λ z. call (record { code = r.code; row = r.row; number = z })) (number_four r.number [] w.long.0)

pub length_body : (j : Stated) (e : FieldEntry) → Shaped j e → length (body e) ≡ field_length j (field_of e)
length_body j (sheet n m z) h = refl
length_body j (row r) h = refl
length_body j (order ps) h = ap length (append-nil ps) ∙ h
length_body j (version q zs) h = omega (arith, length_fours zs, h)
length_body j (ladder q l) h = omega (arith, length_fours (rung_numbers l.rungs), length_rung_numbers l.rungs, h)
length_body j (call r) h = refl

pub shaped_decoded : (j : Stated) (f : Field) (bs : List ℕ) → length bs ≡ field_length j f → Shaped j (decode j f bs)
shaped_decoded j field.Sheet bs e = tt
shaped_decoded j field.Row bs e = tt
shaped_decoded j field.Order bs e = e
shaped_decoded j field.Version bs e = length_numbers (suc j.last_row) (drop 1 bs)
shaped_decoded j field.Ladder bs e = length_rungs (suc j.last_row) _ (length_numbers (2 * suc j.last_row) (drop 2 bs))
shaped_decoded j field.Call bs e = tt

pub fits_decoded : (j : Stated) (f : Field) (bs : List ℕ) → Bytes bs → Fits (decode j f bs)
fits_decoded j field.Sheet bs h = record { bytes = (byte_at bs h 0, (byte_at bs h 1, tt)); long = (number_fits bs 2 h, tt) }
fits_decoded j field.Row bs h = record { bytes = (byte_at bs h 0, tt); long = (number_fits bs 1 h, tt) }
fits_decoded j field.Order bs h = record { bytes = h; long = tt }
fits_decoded j field.Version bs h = record { bytes = (byte_at bs h 0, tt); long = numbers_fit (suc j.last_row) (drop 1 bs) (bytes_drop 1 bs h) }
fits_decoded j field.Ladder bs h =
    let k = 2 * suc j.last_row in
    record {
      bytes = (byte_at bs h 0, (byte_at bs h 1, tt));
      long = subst (AllByRecursion (SFits w32)) (sym (rungs_back (suc j.last_row) (numbers_in k (drop 2 bs)) (length_numbers k (drop 2 bs)))) (numbers_fit k (drop 2 bs) (bytes_drop 2 bs h));
    }
fits_decoded j field.Call bs h = record { bytes = (byte_at bs h 0, (byte_at bs h 1, tt)); long = (number_fits bs 2 h, tt) }
