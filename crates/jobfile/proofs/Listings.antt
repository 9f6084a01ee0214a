-- The places of a listing, and what a version field adds to them. Assumes nothing.
use Rattle.std.proofs.Common.{◌≡◌, ℕ, zero, suc, ◌+◌, ◌-◌, ◌*◌, ◌<◌, ◌≤◌, leb, List, [], length, get_or, take, drop, pos, Option, sym, refl, ap, ◌∙◌, ap₂, inl, inr, arith}
use Rattle.std.proofs.lemmas.List.FromFn.{length-map-range_with_len, fill_by_all}
use Rattle.std.proofs.lemmas.List.{length-map, get_or-map, get_or_past}
use Rattle.std.proofs.lemmas.Bool.{cond-true, le-leb, cases_lt}
use Rattle.rules.specs.Numbers.{number_at}
use Rattle.rules.specs.declared.refusals.Fault.{Fault}
use Rattle.rules.specs.Openings.{first_fault}
use Rattle.catalogue.specs.declared.listed.Listing.{Listing}
use Rattle.catalogue.specs.Listed.{behind, listed_at, no_listed, versions_so_far}
use Rattle.jobfile.specs.declared.fields.Field.TheVariants as field
use Rattle.jobfile.specs.declared.reader.Reader.{Reader}
use Rattle.jobfile.specs.Stated.{held}
use Rattle.jobfile.specs.Contents.{content_tests, version_tests}
use Rattle.jobfile.specs.Reading.{amount_in, decode, numbers_in}
use Rattle.jobfile.specs.Readers.{front_job}
use Rattle.jobfile.specs.InMemory.{amounts_at, versions_of, listed_of}
use Rattle.jobfile.proofs.Codec.{amount_at, length_numbers, number_drop, number_take}

-- the versions that a place is stated with are those that it has in the listing
module _ (bs : List ℕ) (l : Listing) where
  pub held_at : (q : ℕ) → 1 ≤ q → q ≤ length l.places.items → get_or (listed_of bs l) (q - 1) [] ≡ versions_of bs l.rows (listed_at l.places.items q)
  held_at q from to = get_or-map (versions_of bs l.rows) l.places.items (q - 1) no_listed [] (omega arith)

  pub length_listed : length (listed_of bs l) ≡ length l.places.items
  length_listed = length-map l.places.items (versions_of bs l.rows)

  pub held_past : (q : ℕ) → length l.places.items < q → get_or (listed_of bs l) (q - 1) [] ≡ []
  held_past q past = get_or_past (listed_of bs l) (q - 1) [] (omega (arith, length_listed))

  pub length_held : (q : ℕ) → 1 ≤ q → length (get_or (listed_of bs l) (q - 1) []) ≡ versions_so_far l.places.items q
  length_held q from =
      elim (cases_lt (length l.places.items) q) [
        | inl past ↦ ap length (held_past q past) ∙ sym (ap (λ p. p.count) (get_or_past l.places.items (q - 1) no_listed (omega arith)))
        | inr to ↦ ap length (held_at q from to) ∙ length-map-range_with_len (λ k. amounts_at bs l.rows (behind l.rows (listed_at l.places.items q) k)) 0 (listed_at l.places.items q).count
      ] ∙ sym (cond-true (leb 1 q) (listed_at l.places.items q).count 0 (le-leb 1 q from))

-- what the tests of a version field find, by its place, how many places are listed, and how many versions its place has
abbrev pub found_in_version : Reader → List ℕ → ℕ → ℕ → ℕ → Option Fault
found_in_version r body q listed has = first_fault (version_tests r.job.sheet.places r.job.sheet.last_row listed has q (amount_in r.job.sheet.last_row body) r.at)

-- the same by what the listing holds
abbrev pub found_by_listing : Reader → List ℕ → ℕ → Option Fault
found_by_listing r body q = found_in_version r body q (length r.job.listing.places.items) (versions_so_far r.job.listing.places.items q)

by_place : (r : Reader) (body : List ℕ) (q : ℕ) → found_by_listing r body q ≡ found_in_version r body q (length (front_job r).listed) (length (held (front_job r) q))
by_place r body zero = refl
by_place r body (suc q) = ap₂ (found_in_version r body (suc q)) (sym (length_listed r.file.now r.job.listing)) (sym (length_held r.file.now r.job.listing (suc q) (omega arith)))

pub version_tests_are : (r : Reader) (body : List ℕ) → found_by_listing r body (get_or body 0 0) ≡ first_fault (content_tests (front_job r) (decode (front_job r) field.Version body) r.at)
version_tests_are r body = by_place r body (get_or body 0 0)

-- the amounts of a version field are those in its body
pub amounts_are : (file body : List ℕ) (m at : ℕ) → length body ≡ 5 + 4 * m → body ≡ take (length body) (drop (at + 3) file) → numbers_in (suc m) (drop 1 body) ≡ amounts_at file (suc m) at
amounts_are file body m at long is =
    fill_by_all (λ row. number_at file (at + 4 + 4 * row)) (numbers_in (suc m) (drop 1 body)) (suc m) (pos 0) (length_numbers (suc m) (drop 1 body)) (λ k l.
    let there : 1 + 4 * k + 4 ≤ length body = omega arith in
    let place : at + 3 + (1 + 4 * k) ≡ at + 4 + 4 * k = omega arith in
    sym (amount_at m k body l) ∙ ap (λ bs. number_at bs (1 + 4 * k)) is ∙ number_take (length body) (1 + 4 * k) (drop (at + 3) file) there ∙ number_drop (at + 3) (1 + 4 * k) file ∙ ap (number_at file) place)
