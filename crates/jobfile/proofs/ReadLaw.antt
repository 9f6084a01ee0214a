-- A file is accepted as a job exactly when it states that job. Assumes nothing.
use Rattle.std.proofs.Common.{◌≡◌, ℕ, ◌+◌, Bool, true, false, cond, eqb, leb, List, [], ◌∷◌, length, Ok, Err, Result, sym, refl, ap, ◌∙◌, subst, arith}
use Rattle.std.proofs.lemmas.Bool.{le-leb, eqb-true, eq-eqb, cond-true, cond-false}
use Rattle.rules.specs.declared.refusals.Fault.{Fault}
use Rattle.jobfile.specs.declared.fields.Section.TheVariants as section
use Rattle.jobfile.specs.Bounds.{most_bytes}
use Rattle.jobfile.specs.Stated.{Stated}
use Rattle.jobfile.specs.Writing.{bytes_of, encode}
use Rattle.jobfile.specs.Validity.{Valid, States}
use Rattle.jobfile.specs.Reading.{Reading, fresh, and_then, read_fields, early, finish, read}
use Rattle.jobfile.specs.Theorems.{LongestLaw, ReadLaw}
use Rattle.jobfile.proofs.Codec.{Bytes}
use Rattle.jobfile.proofs.FieldReads.{refused_ok, ok_same, passed_cond}
use Rattle.jobfile.proofs.FileRuns.{runs_read, passed_then, read_runs}
use Rattle.jobfile.specs.Refusing.{Late}
use Rattle.jobfile.proofs.Sections.{late_front}
use Rattle.jobfile.proofs.Moves.{runs_front}
use Rattle.jobfile.proofs.Lengths.{size_late}
use Rattle.jobfile.proofs.Written.{section_after, last_section, late_runs}

-- ---- what is accepted is stated

passed_else : {X : Type 0} {x : X} (b : Bool) (f : Fault) (r : Result X Fault) → cond b (Err f) r ≡ Ok x → (b ≡ false) × (r ≡ Ok x)
passed_else true f r e = absurd (refused_ok e)
passed_else false f r e = (refl, e)

complete : (j : Stated) → Late j → length j.listed + length j.ladders ≡ j.places → Valid j
complete j h count =
    record {
      some_place = h.counts.some_place;
      few_places = h.counts.few_places;
      few_rows = h.counts.few_rows;
      cap = h.counts.cap;
      row_count = h.row_count;
      rows = h.rows;
      order = h.order;
      place_count = count;
      listed = h.listed;
      ladders = h.ladders;
      few_calls = h.few_calls;
      calls = h.calls;
    }

accepted : (bs : List ℕ) → Bytes bs → (j : Stated) → read bs ≡ Ok j → States bs j
unfolding read
accepted bs small j h =
    let a = passed_cond (leb (length bs) most_bytes) _ _ h in
    let b = passed_then (read_fields (length bs) fresh bs 0) _ j a.1 in
    let s : Reading = b.0 in
    let c = passed_else (early s.section) _ _ b.2 in
    let d = passed_cond (eqb (length s.job.listed + length s.job.ladders) s.job.places) _ _ c.1 in
    let same : s.job ≡ j = ok_same d.1 in
    let r = read_runs (length bs) 0 fresh s bs small (omega arith) b.1 in
    let f = runs_front r.runs refl in
    let l = late_front s.section s.job c.0 f.0 in
    let writing : bs ≡ encode s.job = r.written ∙ ap bytes_of (sym f.1 ∙ l.1) in
    subst (States bs) same (complete s.job l.0 (eqb-true _ _ d.0), writing)

-- ---- what is stated is accepted

pub late_section : {X Y : Type 0} (xs : List X) (ys : List Y) → early (section_after (section_after section.Versions section.Ladders xs) section.Calls ys) ≡ false
late_section [] [] = refl
late_section (x ∷ xs) [] = refl
late_section xs (y ∷ ys) = refl

valid_late : (j : Stated) → Valid j → Late j
valid_late j v =
    record {
      counts = record { some_place = v.some_place; few_places = v.few_places; few_rows = v.few_rows; cap = v.cap };
      row_count = v.row_count;
      rows = v.rows;
      order = v.order;
      place_count = omega (arith, v.place_count);
      listed = v.listed;
      ladders = v.ladders;
      few_calls = v.few_calls;
      calls = v.calls;
    }

pub longest_law : LongestLaw
longest_law j v = size_late j (valid_late j v)

stated : (j : Stated) → Valid j → read (encode j) ≡ Ok j
unfolding read
stated j v =
    cond-true (leb (length (encode j)) most_bytes) _ _ (le-leb _ _ (omega (arith, longest_law j v)))
    ∙ ap (λ o. and_then o (λ s. finish s (length (encode j)))) (runs_read (length (encode j)) (late_runs j (valid_late j v)) (omega arith))
    ∙ cond-false (early (last_section j)) _ _ (late_section j.ladders j.calls)
    ∙ cond-true (eqb (length j.listed + length j.ladders) j.places) _ _ (eq-eqb _ _ v.place_count)

pub read_law : ReadLaw
read_law bs small j = (accepted bs small j, λ h. ap read h.1 ∙ stated j h.0)
