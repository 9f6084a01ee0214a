-- A file that meets a refusal is read as that refusal. Assumes nothing.
use Rattle.std.proofs.Common.{◌≡◌, ℕ, zero, suc, ◌+◌, ◌*◌, ◌/◌, ◌%◌, ◌≤◌, true, false, eqb, leb, List, [], ◌∷◌, ◌++◌, length, get_or, take, drop, Some, Err, Result, ◌≢◌, sym, refl, ap, ◌∙◌, subst, append_assoc, arith, length-append, length-drop, length-take, w32, SFits}
use Rattle.std.specs.List.{AllByRecursion}
use Rattle.std.proofs.lemmas.List.{drop_at}
use Rattle.std.proofs.lemmas.Bool.{lt-leb, le-leb, eq-eqb, ne_eqb, cond-true, cond-false}
use Rattle.rules.specs.declared.refusals.Fault.{Fault}
use Rattle.rules.specs.Openings.{first_fault, after_tests}
use Rattle.rules.proofs.Bools.{clash}
use Rattle.rules.proofs.TestLists.{all_left, all_right, none_first}
use Rattle.rules.proofs.TestLoops.{first_after}
use Rattle.jobfile.specs.declared.fields.Field.{Field}
use Rattle.jobfile.specs.declared.fields.Field.TheVariants as field
use Rattle.jobfile.specs.declared.fields.Section.{Section}
use Rattle.jobfile.specs.declared.fields.Section.TheVariants as section
use Rattle.jobfile.specs.Bounds.{most_bytes}
use Rattle.jobfile.specs.Stated.{Stated}
use Rattle.jobfile.specs.Writing.{FieldEntry, sheet, row, order, version, ladder, call, field_of, rung_numbers, singles, numbers, body, field_bytes, bytes_of, field_length}
use Rattle.jobfile.specs.Contents.{content_tests}
use Rattle.jobfile.specs.Reading.{Reading, fresh, announced, decode, with_entry, and_then, FieldRead, read_rest, read_announced, read_field, read_fields, early, finish, read}
use Rattle.jobfile.specs.Refusing.{Extent, nothing, to_rows, past_order, Front, so_far, MayFollow, row_missing, rows_there, FirstFailing, tag_in, length_in, Begins, FieldFails, head_cut, tag_wrong, length_wrong, body_cut, contents_wrong, Refused, too_long, at_field, no_order, places_missing}
use Rattle.jobfile.specs.Theorems.{RefusedLaw}
use Rattle.jobfile.proofs.Codec.{byte, Bytes, bytes_take, length_fours, length_rung_numbers}
use Rattle.jobfile.proofs.Decoding.{Shaped, Fits, decoded_body}
use Rattle.jobfile.proofs.FieldReads.{entry_reads}
use Rattle.jobfile.proofs.FileRuns.{Runs, stop, go, runs_read}
use Rattle.jobfile.proofs.Moves.{FrontOf, runs_front}
use Rattle.jobfile.proofs.Sections.{extent, announces, not_announced}
use Rattle.jobfile.proofs.Written.{last_section, early_runs, late_runs}
use Rattle.jobfile.proofs.ReadLaw.{late_section}
use Rattle.jobfile.proofs.Lengths.{size_early, size_late}
use Rattle.jobfile.proofs.RefusedFiles.{read_refused}

-- a body of the length that its field should have has as many numbers as it should
shaped_length : (j : Stated) (e : FieldEntry) → length (body e) ≡ field_length j (field_of e) → Shaped j e
shaped_length j (sheet n m z) h = tt
shaped_length j (row r) h = tt
shaped_length j (order ps) h = omega (arith, h, length-append ps [])
shaped_length j (version q zs) h = omega (arith, h, length_fours zs)
shaped_length j (ladder q l) h = omega (arith, h, length_fours (rung_numbers l.rungs), length_rung_numbers l.rungs)
shaped_length j (call r) h = tt

-- ---- a field that fails a test

module _ (at : ℕ) (s : Reading) (front : FrontOf s) where
  -- the head of a field that may come there is read, and then the rest of the field
  head_read : (f : Field) (bs : List ℕ) (r : Result FieldRead Fault) → Begins (extent s.section) s.job bs f → ((d : Section) → read_rest s.job (record { field = f; section = d }) (length_in bs) (drop 3 bs) at ≡ r) → read_field s bs at ≡ r
  head_read f bs r b h =
      let a = announces s.job s.section front b.may in
      cond-true (leb 3 (length bs)) _ _ (le-leb _ _ b.whole)
      ∙ ap (λ o. read_announced s.job o (length_in bs) (drop 3 bs) at) (ap (announced s.job s.section) b.tag ∙ a.1)
      ∙ h a.0

  -- what is read of contents that fail a test
  contents_read : (e : FieldEntry) (d : Section) (f : Fault) (a b c : ℕ) (tail : List ℕ) → Bytes (a ∷ (b ∷ (c ∷ tail))) → b * 256 + c ≡ field_length s.job (field_of e) → take (3 + (b * 256 + c)) (a ∷ (b ∷ (c ∷ tail))) ≡ field_bytes e → AllByRecursion (SFits w32) (numbers e) → FirstFailing (content_tests s.job e at) f → read_rest s.job (record { field = field_of e; section = d }) (b * 256 + c) tail at ≡ Err f
  contents_read e d f a b c tail small fit is long first =
      let len = b * 256 + c in
      let more : suc (suc (suc len)) ≡ 3 + len = omega arith in
      let written : a ∷ (b ∷ (c ∷ take len tail)) ≡ field_bytes e = ap (λ n. take n (a ∷ (b ∷ (c ∷ tail)))) more ∙ is in
      let said : take len tail ≡ body e = ap (drop 3) written in
      let high : b ≡ length (body e) / 256 = ap (λ xs. get_or xs 1 0) written in
      let low : c ≡ length (body e) % 256 = ap (λ xs. get_or xs 2 0) written in
      let size : length (body e) ≡ len = omega (arith, high, low) in
      let whole : len ≤ length tail = omega (arith, size, ap length said, length-take len tail) in
      let fits : Fits e = record { bytes = all_left byte (singles e) _ (subst Bytes said (bytes_take len tail small.1.1.1)); long = long } in
      let back : decode s.job (field_of e) (take len tail) ≡ e = ap (decode s.job (field_of e)) said ∙ decoded_body s.job e (shaped_length s.job e (size ∙ fit)) fits in
      let rd : FieldEntry → Result FieldRead Fault = λ x. after_tests (first_fault (content_tests s.job x at)) (record { size = 3 + len; reading = record { section = d; job = with_entry s.job x } }) in
      cond-true (eqb len (field_length s.job (field_of e))) _ _ (eq-eqb _ _ fit)
      ∙ cond-true (leb len (length tail)) _ _ (le-leb _ _ whole)
      ∙ ap rd back
      ∙ ap (λ ts. after_tests (first_fault ts) (record { size = 3 + len; reading = record { section = d; job = with_entry s.job e } })) first.are
      ∙ ap (λ o. after_tests o (record { size = 3 + len; reading = record { section = d; job = with_entry s.job e } })) (first_after first.before (Some f ∷ first.after) (none_first first.before first.passed))

  contents_refused : (e : FieldEntry) (f : Fault) (bs : List ℕ) → Bytes bs → Begins (extent s.section) s.job bs (field_of e) → length_in bs ≡ field_length s.job (field_of e) → take (3 + length_in bs) bs ≡ field_bytes e → AllByRecursion (SFits w32) (numbers e) → FirstFailing (content_tests s.job e at) f → read_field s bs at ≡ Err f
  contents_refused e f [] small b fit is long first = absurd (omega (arith, b.whole))
  contents_refused e f (x ∷ []) small b fit is long first = absurd (omega (arith, b.whole))
  contents_refused e f (x ∷ (y ∷ [])) small b fit is long first = absurd (omega (arith, b.whole))
  contents_refused e f (x ∷ (y ∷ (z ∷ tail))) small b fit is long first = head_read (field_of e) (x ∷ (y ∷ (z ∷ tail))) (Err f) b (λ d. contents_read e d f x y z tail small fit is long first)

  field_refused : (f : Fault) (bs : List ℕ) → Bytes bs → FieldFails (extent s.section) s.job bs at f → read_field s bs at ≡ Err f
  field_refused f bs small (head_cut some less) = cond-false (leb 3 (length bs)) _ _ (lt-leb _ _ less)
  field_refused f bs small (tag_wrong whole none) =
      cond-true (leb 3 (length bs)) _ _ (le-leb _ _ whole)
      ∙ ap (λ o. read_announced s.job o (length_in bs) (drop 3 bs) at) (not_announced s.job s.section front (tag_in bs) none (announced s.job s.section (tag_in bs)) refl)
  field_refused f bs small (length_wrong g b other) = head_read g bs _ b (λ d. cond-false (eqb (length_in bs) (field_length s.job g)) _ _ (ne_eqb _ _ other))
  field_refused f bs small (body_cut g b fit less) =
      head_read g bs _ b (λ d.
      cond-true (eqb (length_in bs) (field_length s.job g)) _ _ (eq-eqb _ _ fit)
      ∙ cond-false (leb (length_in bs) (length (drop 3 bs))) _ _ (lt-leb _ _ (omega (arith, less, length-drop 3 bs))))
  field_refused f bs small (contents_wrong e b fit is long first) = contents_refused e f bs small b fit is long first

field_some : {x : Extent} {j : Stated} {bs : List ℕ} {at : ℕ} {f : Fault} → FieldFails x j bs at f → 1 ≤ length bs
field_some (head_cut some less) = some
field_some (tag_wrong whole none) = omega (arith, whole)
field_some (length_wrong g b other) = omega (arith, b.whole)
field_some (body_cut g b fit less) = omega (arith, b.whole)
field_some (contents_wrong e b fit is long first) = omega (arith, b.whole)

-- ---- such a field after others

fields_refused : (most : ℕ) {at : ℕ} {s t : Reading} {es : List FieldEntry} (bs : List ℕ) (f : Fault) → Runs at s es t → 1 ≤ length bs → length (bytes_of es ++ bs) ≤ most → (n : ℕ) → n ≡ at + length (bytes_of es) → read_field t bs n ≡ Err f → read_fields most s (bytes_of es ++ bs) at ≡ Err f
fields_refused zero {es = es} bs f r some l n here h = absurd (omega (arith, length-append (bytes_of es) bs))
fields_refused (suc most) {at} {s} bs f stop some l n here h =
    let same : n ≡ at = omega (arith, here) in
    cond-false (eqb (length bs) 0) _ _ (ne_eqb _ 0 (λ z. omega (arith, some)))
    ∙ ap (λ o. and_then o (λ p. read_fields most p.reading (drop p.size bs) (at + p.size))) (ap (read_field s bs) (sym same) ∙ h)
fields_refused (suc most) {at} {s} {t} bs f (go {u = u} {e = e} {es = es} k r) some l n here h =
    let rest : List ℕ = bytes_of es ++ bs in
    let more : FieldRead → Result Reading Fault = λ p. read_fields most p.reading (drop p.size (field_bytes e ++ rest)) (at + p.size) in
    let whole = length-append (field_bytes e) rest in
    let joined = length-append (field_bytes e) (bytes_of es) in
    let order : (field_bytes e ++ bytes_of es) ++ bs ≡ field_bytes e ++ rest = append_assoc (field_bytes e) (bytes_of es) bs in
    ap (λ xs. read_fields (suc most) s xs at) order
    ∙ cond-false (eqb (length (field_bytes e ++ rest)) 0) _ _ (ne_eqb _ 0 (λ z. omega (arith, whole)))
    ∙ ap (λ o. and_then o more) (entry_reads at s e u rest k)
    ∙ ap (λ xs. read_fields most u xs (at + length (field_bytes e))) (drop_at (field_bytes e) rest (length (field_bytes e)) refl)
    ∙ fields_refused most bs f r some (omega (arith, l, ap length order, whole)) n (omega (arith, here, joined)) h

-- ---- the front of a job is read, and what fails after it fails in the section that is reached

record Reached (x : Extent) (j : Stated) : Type 0 where
  pub reading : Reading
  pub runs : Runs 0 fresh (so_far x j) reading
  pub fails : {bs : List ℕ} {at : ℕ} {f : Fault} → FieldFails x j bs at f → FieldFails (extent reading.section) reading.job bs at f
  pub early : x ≢ past_order → early reading.section ≡ true

-- the job up to its rows alone
abbrev rows_only : Stated → Stated
rows_only j = record { places = j.places; last_row = j.last_row; cap = j.cap; rows = j.rows; order = []; listed = []; ladders = []; calls = [] }

same_length : (j : Stated) (f : Field) → field_length j f ≡ field_length (rows_only j) f
same_length j field.Sheet = refl
same_length j field.Row = refl
same_length j field.Order = refl
same_length j field.Version = refl
same_length j field.Ladder = refl
same_length j field.Call = refl

only_follows : {j : Stated} {f : Field} → MayFollow j to_rows f → MayFollow (rows_only j) to_rows f
only_follows (row_missing h) = row_missing h
only_follows (rows_there h) = rows_there h

or_follows : {j : Stated} {f : Field} → MayFollow (rows_only j) to_rows f → MayFollow j to_rows f
or_follows (row_missing h) = row_missing h
or_follows (rows_there h) = rows_there h

same_tests : (j : Stated) (e : FieldEntry) (at : ℕ) → MayFollow j to_rows (field_of e) → content_tests j e at ≡ content_tests (rows_only j) e at
same_tests j (sheet n m z) at may = refl
same_tests j (row r) at may = refl
same_tests j (order ps) at may = refl
same_tests j (version q zs) at may = elim may [ ]
same_tests j (ladder q l) at may = elim may [ ]
same_tests j (call r) at may = elim may [ ]

module _ {j : Stated} {bs : List ℕ} where
  only_begins : {f : Field} → Begins to_rows j bs f → Begins to_rows (rows_only j) bs f
  only_begins b = record { whole = b.whole; may = only_follows b.may; tag = b.tag }

  only_rows : {at : ℕ} {f : Fault} → FieldFails to_rows j bs at f → FieldFails to_rows (rows_only j) bs at f
  only_rows (head_cut some less) = head_cut some less
  only_rows (tag_wrong whole none) = tag_wrong whole (λ f may. none f (or_follows may))
  only_rows (length_wrong f b other) = length_wrong f (only_begins b) (subst (λ n. length_in bs ≢ n) (same_length j f) other)
  only_rows (body_cut f b fit less) = body_cut f (only_begins b) (fit ∙ same_length j f) less
  only_rows {at} {f} (contents_wrong e b fit is long first) = contents_wrong e (only_begins b) (fit ∙ same_length j (field_of e)) is long (subst (λ ts. FirstFailing ts f) (same_tests j e at b.may) first)

late_extent : (c : Section) → early c ≡ false → extent c ≡ past_order
late_extent section.Start e = clash {b = true} refl e
late_extent section.Rows e = clash {b = true} refl e
late_extent section.Versions e = refl
late_extent section.Ladders e = refl
late_extent section.Calls e = refl

reached : (x : Extent) (j : Stated) → Front x j → Reached x j
reached nothing j k = record { reading = fresh; runs = stop; fails = λ {bs} {at} {f} h. subst (λ i. FieldFails nothing i bs at f) k h; early = λ n. refl }
reached to_rows j k = record { reading = record { section = section.Rows; job = rows_only j }; runs = early_runs j k; fails = only_rows; early = λ n. refl }
reached past_order j k =
    record {
      reading = record { section = last_section j; job = j };
      runs = late_runs j k;
      fails = λ {bs} {at} {f} h. subst (λ x. FieldFails x j bs at f) (sym (late_extent (last_section j) (late_section j.ladders j.calls))) h;
      early = λ n. absurd (n refl);
    }

-- no front of a job is too long
short_front : (x : Extent) (j : Stated) → Front x j → length (bytes_of (so_far x j)) ≤ most_bytes
short_front nothing j k = omega arith
short_front to_rows j k = omega (arith, size_early j (omega (arith, k.row_count, k.counts.few_rows)))
short_front past_order j k = omega (arith, size_late j k)

pub refused_read : (bs : List ℕ) (f : Fault) → Bytes bs → Refused bs f → read bs ≡ Err f
unfolding read
refused_read bs f small (too_long h) = cond-false (leb (length bs) most_bytes) _ _ (lt-leb _ _ h)
refused_read bs f small (at_field x j rest front short fails) =
    let w = reached x j front in
    let n : ℕ = length (bytes_of (so_far x j)) in
    cond-true (leb (length bs) most_bytes) _ _ (le-leb _ _ short)
    ∙ ap (λ o. and_then o (λ s. finish s (length bs)))
    (fields_refused (length bs) rest f w.runs (field_some fails) (omega arith) n (omega arith)
    (field_refused n w.reading (runs_front w.runs refl).0 f rest (all_right byte (bytes_of (so_far x j)) rest small) (w.fails fails)))
refused_read bs f small (no_order x j front before) =
    let w = reached x j front in
    cond-true (leb (length bs) most_bytes) _ _ (le-leb _ _ (short_front x j front))
    ∙ ap (λ o. and_then o (λ s. finish s (length bs))) (runs_read (length bs) w.runs (omega arith))
    ∙ cond-true (early w.reading.section) _ _ (w.early before)
refused_read bs f small (places_missing j late missing) =
    cond-true (leb (length bs) most_bytes) _ _ (le-leb _ _ (short_front past_order j late))
    ∙ ap (λ o. and_then o (λ s. finish s (length bs))) (runs_read (length bs) (late_runs j late) (omega arith))
    ∙ cond-false (early (last_section j)) _ _ (late_section j.ladders j.calls)
    ∙ cond-false (eqb (length j.listed + length j.ladders) j.places) _ _ (ne_eqb _ _ missing)

-- ---- so a file is refused exactly when it meets a refusal

pub refused_law : RefusedLaw
refused_law bs small f = (read_refused bs small f, refused_read bs f small)
