-- What a reader comes to with a version field. Assumes nothing.
use Rattle.std.proofs.Common.{◌≡◌, ℕ, suc, ◌+◌, ◌-◌, ◌*◌, ◌<◌, ◌≤◌, ltb, List, [], ◌∷◌, ◌++◌, map, length, get_or, take, drop, set, ℤ, Ok, sym, refl, ap, ◌∙◌, subst, ap₂, add-mul, arith, length-append}
use Rattle.std.proofs.Math.Seq.{get_or-append_seam}
use Rattle.std.proofs.lemmas.List.FromFn.{map-range_with_len_more}
use Rattle.std.proofs.lemmas.List.{length-set, length-take-le, map_push, take-map, take_all, take_more_set}
use Rattle.std.proofs.lemmas.Bool.{and_parts, cond-true, cond-false, leb-true, ltb-true, ltb-false}
use Rattle.rules.specs.Bounds.{most_versions}
use Rattle.rules.specs.Openings.{first_fault, after_tests}
use Rattle.rules.proofs.Bools.{clash, split}
use Rattle.rules.proofs.TestLists.{all_passed, test_passed}
use Rattle.catalogue.specs.declared.listed.ListedPlace.{ListedPlace}
use Rattle.catalogue.specs.declared.listed.Listing.{Listing}
use Rattle.catalogue.specs.Listed.{behind, grown, last_listed, next_start, no_listed, version_width, versions_so_far, with_first_version, with_next_version}
use Rattle.jobfile.specs.declared.fields.Field.TheVariants as field
use Rattle.jobfile.specs.declared.job.Job.{Job}
use Rattle.jobfile.specs.declared.reader.Reader.{Reader}
use Rattle.jobfile.specs.Stated.{PlaceStated, Stated}
use Rattle.jobfile.specs.Sound.{HoldsIn, ListingEnds, Sound}
use Rattle.jobfile.specs.Contents.{content_tests, version_tests}
use Rattle.jobfile.specs.Reading.{amount_in, decode, early, numbers_in}
use Rattle.jobfile.specs.InMemory.{amounts_at, versions_of, listed_of, with_version}
use Rattle.jobfile.specs.Readers.{Due, front_job, with_body}
use Rattle.rules.proofs.TestLoops.{passed_tests}
use Rattle.jobfile.proofs.BodyReads.{after_passed, front_with}
use Rattle.jobfile.proofs.Listings.{amounts_are, found_by_listing, held_at, held_past, version_tests_are}

-- what the tests of a version say that passed
pub record Turn (n listed has q : ℕ) : Type 0 where
  pub from : 1 ≤ q
  pub to : q ≤ n
  pub after : listed ≤ q
  pub next : q ≤ suc listed
  pub room : has < most_versions

turn_passed : (n m listed has q : ℕ) (a : ℕ → ℤ) (at : ℕ) → after_tests (first_fault (version_tests n m listed has q a at)) (tt {0}) ≡ Ok (tt {0}) → Turn n listed has q
turn_passed n m listed has q a at h =
    let all = all_passed (version_tests n m listed has q a at) (passed_tests _ _ _ h).0 in
    let turn = and_parts _ _ (test_passed _ _ all.0) in
    let turn₁ = and_parts _ _ turn.1 in
    let turn₂ = and_parts _ _ turn₁.1 in
    record {
      from = leb-true 1 q turn.0;
      to = leb-true q n turn₁.0;
      after = leb-true listed q turn₂.0;
      next = leb-true q (suc listed) turn₂.1;
      room = ltb-true has most_versions (test_passed _ _ all.1.0);
    }

last_of : (xs : List ListedPlace) (x : ListedPlace) → last_listed (xs ++ x ∷ []) ≡ x
last_of xs x =
    let at : length (xs ++ x ∷ []) - 1 ≡ length xs = omega (arith, length-append xs (x ∷ [])) in
    ap (λ k. get_or (xs ++ x ∷ []) k no_listed) at ∙ get_or-append_seam xs x [] no_listed

-- a version field is read, and the table of places has in it what that version adds
module _ (r : Reader) (body : List ℕ) (due : Due r field.Version body) where
  abbrev old : Listing
  old = r.job.listing

  abbrev q : ℕ
  q = get_or body 0 0

  abbrev file : List ℕ
  file = r.file.now

  abbrev pub PassedTests : Type 0
  PassedTests = after_tests (found_by_listing r body q) (tt {0}) ≡ Ok (tt {0})

  -- the listing has that version as well
  pub record Adds (new : Listing) (x : ListedPlace) : Type 0 where
    pub end : new.end ≡ old.end
    pub rows : new.rows ≡ old.rows
    pub places : new.places.items ≡ take (q - 1) old.places.items ++ x ∷ []
    pub versions : versions_of file old.rows x ≡ get_or (listed_of file old) (q - 1) [] ++ amounts_at file old.rows r.at ∷ []
    pub ends : next_start old.rows x ≡ r.at + (3 + length body)

  listed_more : (new : Listing) (x : ListedPlace) → Adds new x → listed_of file new ≡ take (q - 1) (listed_of file old) ++ (get_or (listed_of file old) (q - 1) [] ++ amounts_at file old.rows r.at ∷ []) ∷ []
  listed_more new x a =
      ap₂ (λ k xs. map (versions_of file k) xs) a.rows a.places
      ∙ map_push (versions_of file old.rows) (take (q - 1) old.places.items) x
      ∙ ap₂ (λ xs vs. xs ++ vs ∷ []) (sym (take-map (versions_of file old.rows) (q - 1) old.places.items)) a.versions

  abbrev with_listing : Listing → Job
  with_listing l = record { sheet = r.job.sheet; calls = r.job.calls; listing = l; ladder = r.job.ladder }

  version_read : (new : Listing) (x : ListedPlace) → PassedTests → Adds new x → Ok (front_with r (with_listing new)) ≡ with_body (front_job r) field.Version body r.at
  version_read new x passed a =
      let m = r.job.sheet.last_row in
      let with_listed : List PlaceStated → Stated = λ ps. record { places = (front_job r).places; last_row = (front_job r).last_row; cap = (front_job r).cap; rows = (front_job r).rows; order = (front_job r).order; listed = ps; ladders = (front_job r).ladders; calls = (front_job r).calls } in
      let amounts : numbers_in (suc m) (drop 1 body) ≡ amounts_at file old.rows r.at = amounts_are file body m r.at due.fits due.is ∙ ap (λ k. amounts_at file k r.at) (sym r.sound.same_rows.listing) in
      ap (λ ps. Ok (with_listed ps)) (listed_more new x a ∙ ap (λ zs. take (q - 1) (listed_of file old) ++ (get_or (listed_of file old) (q - 1) [] ++ zs ∷ []) ∷ []) (sym amounts))
      ∙ after_passed (first_fault (content_tests (front_job r) (decode (front_job r) field.Version body) r.at)) _ (subst (λ o. after_tests o (tt {0}) ≡ Ok (tt {0})) (version_tests_are r body) passed)

  -- the listing has as many places as the place's number, and the last one ends behind the field
  length_more : (new : Listing) (x : ListedPlace) → Adds new x → 1 ≤ q → q ≤ suc (length old.places.items) → length new.places.items ≡ q
  length_more new x a from next = ap length a.places ∙ omega (arith, length-append (take (q - 1) old.places.items) (x ∷ []), length-take-le (q - 1) old.places.items (omega arith))

  last_ends : (new : Listing) (x : ListedPlace) → Adds new x → next_start new.rows (last_listed new.places.items) ≡ r.at + (3 + length body)
  last_ends new x a = ap₂ (λ k xs. next_start k (last_listed xs)) a.rows a.places ∙ ap (next_start old.rows) (last_of (take (q - 1) old.places.items) x) ∙ a.ends

  -- the first version of the next place, and one version more of the last one
  first_adds : (new : Listing) (start : ℕ) → q ≡ suc (length old.places.items) → start ≡ r.at → new.end ≡ old.end → new.rows ≡ old.rows → new.places.items ≡ with_first_version old.places.items start → Adds new (record { count = 1; start = start })
  first_adds new start turn here end rows places =
      let first : start + 0 * version_width old.rows ≡ r.at = omega arith in
      record {
        end = end;
        rows = rows;
        places = places ∙ ap (λ xs. xs ++ record { count = 1; start = start } ∷ []) (sym (take_all (q - 1) old.places.items (omega arith)));
        versions = ap (λ k. amounts_at file old.rows k ∷ []) first ∙ ap (λ vs. vs ++ amounts_at file old.rows r.at ∷ []) (sym (held_past file old q (omega arith)));
        ends = omega (arith, here, due.fits, r.sound.same_rows.listing);
      }

  next_adds : (new : Listing) → ListingEnds r.at r.job → q ≡ length old.places.items → 1 ≤ q → new.end ≡ old.end → new.rows ≡ old.rows → new.places.items ≡ with_next_version old.places.items → Adds new (grown (last_listed old.places.items))
  next_adds new ends turn from end rows places =
      let items = old.places.items in
      let p = last_listed items in
      let field : ℕ → List ℤ = λ k. amounts_at file old.rows (behind old.rows p k) in
      let here : next_start old.rows p ≡ r.at = ends.last (omega (arith, turn, from)) in
      let changed : List ListedPlace = set items (length items - 1) (grown p) in
      let one : length items - 1 + 1 ≡ length items = omega arith in
      record {
        end = end;
        rows = rows;
        places =
            places
            ∙ sym (take_all (length items - 1 + 1) changed (omega (arith, length-set items (length items - 1) (grown p))))
            ∙ take_more_set items (length items - 1) (grown p) (omega arith)
            ∙ ap (λ k. take (k - 1) items ++ grown p ∷ []) (sym turn);
        versions =
            map-range_with_len_more field 0 p.count p.count (omega arith)
            ∙ ap₂ (λ vs at. vs ++ amounts_at file old.rows at ∷ []) (ap (λ k. versions_of file old.rows (get_or items (k - 1) no_listed)) (sym turn) ∙ sym (held_at file old q from (omega (arith, turn)))) here;
        ends = omega (arith, here, due.fits, r.sound.same_rows.listing, add-mul p.count 1 (version_width old.rows));
      }

  turn : PassedTests → Turn r.job.sheet.places (length old.places.items) (versions_so_far old.places.items q) q
  turn passed = turn_passed r.job.sheet.places r.job.sheet.last_row (length old.places.items) (versions_so_far old.places.items q) q (amount_in r.job.sheet.last_row body) r.at passed

  pub record Has (new : Listing) : Type 0 where
    pub place : ListedPlace
    pub adds : Adds new place

  pub has_version : PassedTests → (new : Listing) (start : ℕ) → start ≡ r.at → new.end ≡ old.end → new.rows ≡ old.rows → new.places.items ≡ with_version old.places.items q start → Has new
  has_version passed new start here end rows added =
      let t = turn passed in
      split (ltb (length old.places.items) q)
      (λ next.
      let past : length old.places.items < q = ltb-true _ _ next in
      record { place = record { count = 1; start = start }; adds = first_adds new start (omega (arith, t.next)) here end rows (added ∙ cond-true _ _ _ next) })
      (λ last.
      let to : q ≤ length old.places.items = ltb-false _ _ last in
      record { place = grown (last_listed old.places.items); adds = next_adds new (r.holds.versions due.turn) (omega (arith, t.after)) t.from end rows (added ∙ cond-false _ _ _ last) })

  pub job_read : PassedTests → (new : Listing) → Has new → Ok (front_with r (with_listing new)) ≡ with_body (front_job r) field.Version body r.at
  job_read passed new h = version_read new h.place passed h.adds

  pub still_sound : PassedTests → (new : Listing) → Has new → Sound file r.rows (with_listing new)
  still_sound passed new h =
      let s = r.sound in
      let t = turn passed in
      let count = length_more new h.place h.adds t.from t.next in
      let ends = r.holds.versions due.turn in
      record {
        short = s.short;
        few_places = s.few_places;
        few_rows = s.few_rows;
        row_table = s.row_table;
        order_table = s.order_table;
        rows_read = s.rows_read;
        blank_rows = s.blank_rows;
        blank_order = s.blank_order;
        same_rows = record { listing = h.adds.rows ∙ s.same_rows.listing; ladder = s.same_rows.ladder };
        end = h.adds.end ∙ s.end;
        placed = omega (arith, count, t.to, ap length ends.no_ladder);
      }

  pub still_holds : (new : Listing) → Has new → HoldsIn r.section (r.at + (3 + length body)) r.rows (with_listing new)
  still_holds new h =
      let ends = r.holds.versions due.turn in
      record {
        nothing_after = λ e. clash (ap early (sym due.turn) ∙ e) refl;
        all_rows = r.holds.all_rows;
        versions = λ e. record { no_ladder = ends.no_ladder; last = λ some. last_ends new h.place h.adds };
      }
