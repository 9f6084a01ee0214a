-- What a whole file comes to, by its length, its fields and its end. Assumes nothing.
use Rattle.std.proofs.Common.{◌≡◌, ℕ, ◌<◌, ◌≤◌, leb, List, length, drop, Err, Result, sym, ap, ◌∙◌, ap₂}
use Rattle.std.proofs.lemmas.Bool.{cond-true, cond-false, le-leb, lt-leb}
use Rattle.rules.specs.declared.refusals.Fault.{Fault}
use Rattle.rules.specs.declared.refusals.Refusal.TheVariants.{FileTooLong}
use Rattle.rules.specs.Refusals.{fault_in}
use Rattle.jobfile.specs.Bounds.{most_bytes}
use Rattle.jobfile.specs.Reading.{Reading, finish, fresh, read, read_fields, and_then}

module _ (file : List ℕ) where
  pub too_long : (f : Fault) → most_bytes < length file → f ≡ fault_in FileTooLong most_bytes 0 0 0 → Err f ≡ read file
  unfolding read
  too_long f long is = ap Err is ∙ sym (cond-false (leb (length file) most_bytes) _ _ (lt-leb (length file) most_bytes long))

  pub by_fields : (fields : Result Reading Fault) → length file ≤ most_bytes → fields ≡ read_fields (length file) fresh file 0 → and_then fields (λ s. finish s (length file)) ≡ read file
  unfolding read
  by_fields fields short is = ap (λ o. and_then o (λ s. finish s (length file))) is ∙ sym (cond-true (leb (length file) most_bytes) _ _ (le-leb (length file) most_bytes short))

  -- the fields from the front of the file, where a reader begins
  pub from_front : (bytes : List ℕ) (at : ℕ) (s : Reading) → bytes ≡ file → at ≡ 0 → s ≡ fresh → read_fields (length bytes) s (drop at bytes) at ≡ read_fields (length file) fresh file 0
  from_front bytes at s same begins nothing = ap (λ xs. read_fields (length xs) s (drop at xs) at) same ∙ ap₂ (λ k s. read_fields (length file) s (drop k file) k) begins nothing
