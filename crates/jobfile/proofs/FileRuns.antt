-- The fields of a file one after the other. Assumes nothing.
use Rattle.std.proofs.Common.{◌≡◌, ℕ, zero, suc, ◌+◌, ◌≤◌, eqb, List, [], ◌∷◌, ◌++◌, length, drop, Ok, Err, Result, sym, refl, ap, ◌∙◌, subst, arith, length-append, length-drop}
use Rattle.std.proofs.lemmas.List.{drop_at, take-append-drop}
use Rattle.std.proofs.lemmas.Bool.{eqb-true, ne_eqb, cond-true, cond-false}
use Rattle.rules.specs.declared.refusals.Fault.{Fault}
use Rattle.rules.proofs.Bools.{split}
use Rattle.jobfile.specs.Writing.{FieldEntry, field_bytes, bytes_of}
use Rattle.jobfile.specs.Reading.{Reading, FieldRead, and_then, read_field, read_fields}
use Rattle.jobfile.proofs.Codec.{Bytes, bytes_drop}
use Rattle.jobfile.proofs.FieldReads.{Takes, refused_ok, entry_reads, field_reads}

-- entries lead from one reading to another
pub data Runs : ℕ → Reading → List FieldEntry → Reading → Type 0 where
  stop : {at : ℕ} {s : Reading} → Runs at s [] s
  go : {at : ℕ} {s u t : Reading} {e : FieldEntry} {es : List FieldEntry} → Takes at s e u → Runs (at + length (field_bytes e)) u es t → Runs at s (e ∷ es) t

-- the writing of such entries is read
pub runs_read : (most : ℕ) {at : ℕ} {s t : Reading} {es : List FieldEntry} → Runs at s es t → length (bytes_of es) ≤ most → read_fields most s (bytes_of es) at ≡ Ok t
runs_read zero stop h = refl
runs_read (suc most) stop h = refl
runs_read zero (go {e = e} {es = es} k r) h = absurd (omega (arith, length-append (field_bytes e) (bytes_of es)))
runs_read (suc most) {at} {s} {t} (go {u = u} {e = e} {es = es} k r) h =
    let whole = length-append (field_bytes e) (bytes_of es) in
    let more : FieldRead → Result Reading Fault = λ p. read_fields most p.reading (drop p.size (field_bytes e ++ bytes_of es)) (at + p.size) in
    cond-false (eqb (length (field_bytes e ++ bytes_of es)) 0) _ _ (ne_eqb _ 0 (λ z. omega (arith, whole)))
    ∙ ap (λ o. and_then o more) (entry_reads at s e u (bytes_of es) k)
    ∙ ap (λ bs. read_fields most u bs (at + length (field_bytes e))) (drop_at (field_bytes e) (bytes_of es) (length (field_bytes e)) refl)
    ∙ runs_read most r (omega (arith, whole))

pub passed_then : {X Y : Type 0} (o : Result X Fault) (f : X → Result Y Fault) (y : Y) → and_then o f ≡ Ok y → (x : X) × (o ≡ Ok x) × (f x ≡ Ok y)
passed_then (Ok x) f y e = (x, refl, e)
passed_then (Err x) f y e = absurd (refused_ok e)

-- what is read is the writing of entries that lead there
pub record ReadThrough (at : ℕ) (s : Reading) (bs : List ℕ) (t : Reading) : Type 0 where
  pub entries : List FieldEntry
  pub runs : Runs at s entries t
  pub written : bs ≡ bytes_of entries

none_left : (at : ℕ) (s t : Reading) (bs : List ℕ) → length bs ≡ 0 → ◌≡◌ {A = Result Reading Fault} (Ok s) (Ok t) → ReadThrough at s bs t
none_left at s t [] e h = let same : s ≡ t = cc in subst (ReadThrough at s []) same (record { entries = []; runs = stop; written = refl })
none_left at s t (b ∷ bs) e h = absurd (omega arith)

pub read_runs : (most at : ℕ) (s t : Reading) (bs : List ℕ) → Bytes bs → length bs ≤ most → read_fields most s bs at ≡ Ok t → ReadThrough at s bs t
read_runs zero at s t bs small l h = none_left at s t bs (omega arith) h
read_runs (suc most) at s t bs small l h =
    split (eqb (length bs) 0)
    (λ z. none_left at s t bs (eqb-true _ _ z) (sym (cond-true (eqb (length bs) 0) (Ok s) _ z) ∙ h))
    (λ z.
    let p = passed_then (read_field s bs at) _ t (sym (cond-false (eqb (length bs) 0) (Ok s) _ z) ∙ h) in
    let r : FieldRead = p.0 in
    let f = field_reads at s bs r small p.1 in
    let left : length (drop r.size bs) ≤ most = omega (arith, length-drop r.size bs, f.size) in
    let g = read_runs most (at + r.size) r.reading t (drop r.size bs) (bytes_drop r.size bs small) left p.2 in
    record {
      entries = f.entry ∷ g.entries;
      runs = go {es = g.entries} f.takes (subst (λ n. Runs (at + n) r.reading g.entries t) f.size g.runs);
      written = sym (take-append-drop r.size bs) ∙ ap (λ xs. xs ++ drop r.size bs) f.written ∙ ap (λ xs. field_bytes f.entry ++ xs) {x = drop r.size bs} {y = bytes_of g.entries} g.written;
    })

pub runs_join : {at : ℕ} {s u t : Reading} {es fs : List FieldEntry} → Runs at s es u → Runs (at + length (bytes_of es)) u fs t → Runs at s (es ++ fs) t
runs_join {at} {u = u} {t = t} {fs = fs} stop r = subst (λ n. Runs n u fs t) {x = at + 0} {y = at} (omega arith) r
runs_join {at} {u = u} {t = t} {fs = fs} (go {e = e} {es = es} k q) r =
    go k (runs_join q (subst (λ n. Runs n u fs t) {x = at + length (bytes_of (e ∷ es))} {y = at + length (field_bytes e) + length (bytes_of es)} (omega (arith, length-append (field_bytes e) (bytes_of es))) r))
