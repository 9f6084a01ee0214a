-- What a reader comes to with a ladder field. Assumes nothing.
use Rattle.std.proofs.Common.{◌≡◌, ℕ, ℤ, suc, ◌+◌, ◌*◌, ◌≤◌, List, [], ◌∷◌, ◌++◌, map, length, get_or, drop, Ok, Option, sym, ap, ◌∙◌, ap₂}
use Rattle.std.proofs.lemmas.List.{length-map, map_push}
use Rattle.std.proofs.lemmas.Bool.{and_parts, eqb-true, leb-true}
use Rattle.rules.specs.declared.refusals.Fault.{Fault}
use Rattle.rules.specs.Openings.{first_fault, after_tests}
use Rattle.rules.proofs.TestLists.{all_passed, test_passed}
use Rattle.rules.proofs.TestLoops.{passed_tests}
use Rattle.catalogue.specs.declared.rung.Rung.{Rung}
use Rattle.catalogue.specs.declared.ladder.Ladder.{Ladder}
use Rattle.catalogue.specs.Ladder.{with_place}
use Rattle.jobfile.specs.declared.fields.Field.TheVariants as field
use Rattle.jobfile.specs.declared.job.Job.{Job}
use Rattle.jobfile.specs.declared.reader.Reader.{Reader}
use Rattle.jobfile.specs.Stated.{RungStated, LadderStated, Stated, rung_amount}
use Rattle.jobfile.specs.Contents.{content_tests, ladder_tests}
use Rattle.jobfile.specs.Reading.{decode, numbers_in, rungs_in}
use Rattle.jobfile.specs.InMemory.{ladder_of_place, ladders_of, rungs_of}
use Rattle.jobfile.specs.Readers.{front_job, with_body}
use Rattle.jobfile.proofs.BodyReads.{after_passed, front_with}
use Rattle.jobfile.proofs.Listings.{length_listed}

-- as many ladders are stated as the catalogue has
pub length_ladders : (l : Ladder) → length (ladders_of l) ≡ length l.places.items
length_ladders l = length-map l.places.items (ladder_of_place l.rows)

-- a ladder that passed its tests is of the next place, and of one that there is
pub turn_passed : (n m found q count : ℕ) (a : ℕ → ℕ → ℤ) (at : ℕ) → after_tests (first_fault (ladder_tests n m found q count a at)) (tt {0}) ≡ Ok (tt {0}) → (q ≡ suc found) × (q ≤ n)
turn_passed n m found q count a at h =
    let all = all_passed (ladder_tests n m found q count a at) (passed_tests _ _ _ h).0 in
    let turn = and_parts _ _ (test_passed _ _ all.0) in
    (eqb-true q (suc found) turn.0, leb-true q n turn.1)

module _ (r : Reader) (body : List ℕ) where
  abbrev said : List RungStated
  said = rungs_in (numbers_in (2 * suc r.job.sheet.last_row) (drop 2 body))

  abbrev pub tests_of_body : Option Fault
  tests_of_body = first_fault (content_tests (front_job r) (decode (front_job r) field.Ladder body) r.at)

  -- what the tests find that are made of the body, by the last row, the place, the count and the rungs that it says
  pub ladder_tests_are : (m q count found : ℕ) (gs : List Rung) → m ≡ r.job.sheet.last_row → q ≡ get_or body 0 0 → count ≡ get_or body 1 0 → found ≡ length r.job.listing.places.items + length r.job.ladder.places.items → rungs_of (suc r.job.sheet.last_row) gs ≡ said → first_fault (ladder_tests r.job.sheet.places m found q count (rung_amount (rungs_of (suc m) gs)) r.at) ≡ tests_of_body
  ladder_tests_are m q count found gs rows place versions counted is =
      let by : ℕ → ℕ → ℕ → ℕ → List RungStated → Option Fault = λ m q count found gs. first_fault (ladder_tests r.job.sheet.places m found q count (rung_amount gs) r.at) in
      ap (λ m. by m q count found (rungs_of (suc m) gs)) rows
      ∙ ap₂ (λ q count. by r.job.sheet.last_row q count found (rungs_of (suc r.job.sheet.last_row) gs)) place versions
      ∙ ap₂ (by r.job.sheet.last_row (get_or body 0 0) (get_or body 1 0)) (counted ∙ sym (ap₂ (λ a b. a + b) (length_listed r.file.now r.job.listing) (length_ladders r.job.ladder))) is

  abbrev with_ladder : Ladder → Job
  with_ladder l = record { sheet = r.job.sheet; calls = r.job.calls; listing = r.job.listing; ladder = l }

  pub ladder_read : (new : Ladder) (count : ℕ) (gs : List Rung) → count ≡ get_or body 1 0 → new.rows ≡ r.job.ladder.rows → new.places.items ≡ with_place r.job.ladder.places.items count gs → rungs_of (suc r.job.sheet.last_row) gs ≡ said → after_tests tests_of_body (tt {0}) ≡ Ok (tt {0}) → Ok (front_with r (with_ladder new)) ≡ with_body (front_job r) field.Ladder body r.at
  ladder_read new count gs versions rows added is passed =
      let old = r.job.ladder in
      let here = ap (λ k. rungs_of k gs) r.sound.same_rows.ladder ∙ is in
      let with_ladders : List LadderStated → Stated = λ ls. record { places = (front_job r).places; last_row = (front_job r).last_row; cap = (front_job r).cap; rows = (front_job r).rows; order = (front_job r).order; listed = (front_job r).listed; ladders = ls; calls = (front_job r).calls } in
      let more =
      ap₂ (λ k xs. map (ladder_of_place k) xs) rows added
      ∙ map_push (ladder_of_place old.rows) old.places.items (record { count = count; rungs = gs })
      ∙ ap₂ (λ n xs. ladders_of old ++ record { count = n; rungs = xs } ∷ []) versions here in
      ap (λ ls. Ok (with_ladders ls)) more ∙ after_passed tests_of_body _ passed
