-- The fields of a file, read one after the other. Assumes nothing.
use Rattle.std.proofs.Common.{◌≡◌, ℕ, zero, suc, ◌+◌, ◌-◌, ◌<◌, ◌≤◌, eqb, List, length, drop, Ok, Err, Result, sym, refl, ap, ◌∙◌, ap₂, arith, length-drop}
use Rattle.std.proofs.lemmas.List.{drop-drop}
use Rattle.std.proofs.lemmas.Bool.{cond-true, cond-false, eq-eqb, ne_eqb}
use Rattle.rules.specs.declared.refusals.Fault.{Fault}
use Rattle.jobfile.specs.declared.reader.Reader.{Reader}
use Rattle.jobfile.specs.Reading.{Reading, read_field, read_fields, and_then}
use Rattle.jobfile.specs.Readers.{MovedOn, field_between, front_of, told}

-- what is left of a file from where the reader is comes to a result
pub record SoFar (file : List ℕ) (goal : Result Reading Fault) (r : Reader) : Type 0 where
  pub same : r.file.now ≡ file
  -- no more fields are left than this
  pub most : ℕ
  pub enough : length file ≤ r.at + most
  pub leads : read_fields most (front_of r) (drop r.at file) r.at ≡ goal

module _ (file : List ℕ) (goal : Result Reading Fault) (r : Reader) (before : r.at < length file) where
  one_more : (most : ℕ) → read_fields (suc most) (front_of r) (drop r.at file) r.at ≡ and_then (read_field (front_of r) (drop r.at file) r.at) (λ p. read_fields most p.reading (drop p.size (drop r.at file)) (r.at + p.size))
  one_more most = cond-false (eqb (length (drop r.at file)) 0) _ _ (ne_eqb _ _ (λ e. omega (arith, length-drop r.at file)))

  by_field : (most : ℕ) (answer : Result (Unit {0}) Fault) (after : Reader) → length file ≤ r.at + most → read_fields most (front_of r) (drop r.at file) r.at ≡ goal → told answer (field_between r after) ≡ read_field (front_of r) (drop r.at file) r.at → (m : ℕ) × (most ≡ suc m) × (and_then (told answer (field_between r after)) (λ p. read_fields m p.reading (drop p.size (drop r.at file)) (r.at + p.size)) ≡ goal)
  by_field zero answer after l h e = absurd (omega arith)
  by_field (suc m) answer after l h e = (m, refl, ap (λ o. and_then o (λ p. read_fields m p.reading (drop p.size (drop r.at file)) (r.at + p.size))) e ∙ sym (one_more m) ∙ h)

  -- a field that fails
  pub field_fails : (f : Fault) (after : Reader) → SoFar file goal r → told {X = Unit {0}} (Err f) (field_between r after) ≡ read_field (front_of r) (drop r.at file) r.at → Err f ≡ goal
  field_fails f after s e = (by_field s.most (Err f) after s.enough s.leads e).2

  -- a field that is read
  pub field_more : (after : Reader) → SoFar file goal r → told (Ok (tt {0})) (field_between r after) ≡ read_field (front_of r) (drop r.at file) r.at → MovedOn file r.at after → SoFar file goal after
  field_more after s e moved =
      let b = by_field s.most (Ok (tt {0})) after s.enough s.leads e in
      let on : r.at + (after.at - r.at) ≡ after.at = omega (arith, moved.on) in
      record {
        same = moved.same;
        most = b.0;
        enough = omega (arith, s.enough, b.1, moved.on);
        leads = ap₂ (λ xs k. read_fields b.0 (front_of after) xs k) (sym (drop-drop (after.at - r.at) r.at file ∙ ap (λ k. drop k file) on)) (sym on) ∙ b.2;
      }

nothing_left : (most : ℕ) (s : Reading) (bs : List ℕ) (at : ℕ) → length bs ≡ 0 → read_fields most s bs at ≡ Ok s
nothing_left zero s bs at e = refl
nothing_left (suc most) s bs at e = cond-true (eqb (length bs) 0) _ _ (eq-eqb _ _ e)

-- at the end of the file
pub fields_end : (file : List ℕ) (goal : Result Reading Fault) (r : Reader) → length file ≤ r.at → SoFar file goal r → Ok (front_of r) ≡ goal
fields_end file goal r past s = sym (nothing_left s.most (front_of r) (drop r.at file) r.at (length-drop r.at file ∙ omega arith)) ∙ s.leads
