-- What is answered is right, by place. Assumes nothing.
use Rattle.std.proofs.Common.{◌≡◌, ℕ, zero, suc, ◌-◌, ◌<◌, ◌≤◌, true, false, not, ◌⊎◌, List, length, get_or, replicate, ◌≤ℤ◌, is_some, Some, None, Ok, Option, Result, sym, refl, ap, ◌∙◌, subst, inl, inr, arith, length-take}
use lib.ListN.{length-replicate}
use Rattle.std.proofs.lemmas.List.{get_or-take, get_or_past, ext_get_or}
use Rattle.std.proofs.lemmas.Int.{ints}
use Rattle.std.proofs.lemmas.Bool.{cond_both, and_parts, and_from, not-true, eqb-true, eq-eqb, cases_lt}
use Rattle.rules.specs.declared.refusals.Refusal.{Refusal}
use Rattle.rules.specs.declared.sheets.Sheet.{Sheet}
use Rattle.rules.specs.Bounds.{most_places}
use Rattle.rules.specs.Joinings.{kind_numbered}
use Rattle.rules.specs.Catalogues.{Meaning, SoundMeaning}
use Rattle.rules.specs.Sheets.{last_row, kind_of, limit_of, joining_of}
use Rattle.rules.specs.Choices.{version, Choice, Keeps, total, price}
use Rattle.rules.proofs.Bools.{clash}
use Rattle.rules.proofs.Inside.{versions_inside, amount_inside, joined_same}
use Rattle.rules.proofs.KindNumbers.{kind_there, there_kind}
use Rattle.exhaustive.specs.declared.found.Found.{Found}
use Rattle.exhaustive.specs.Answers.{Before, named, FirstCheapest, RightAnswer}
use Rattle.rules.specs.Openings.{SameCounts, KnownKinds}
use Rattle.exhaustive.specs.Trials.{guarded, row_kept, all_kept, kinds_known, tried, all_tried, answer}
use Rattle.rules.specs.Openings.{counts_same, kind_known}
use Rattle.exhaustive.proofs.KeptRows.{all_at, all_from}
use Rattle.exhaustive.proofs.FirstCheapest.{SameTo, GoingOn, NoLater, FirstOf, FoundOf, kept_same, total_same, tried_found}

module _ (m : Meaning) (w : SoundMeaning m) (s : Sheet) (same : SameCounts m s) where
  abbrev G : Meaning
  G = guarded m

  abbrev none_set : List ℕ
  none_set = replicate most_places 0

  few : s.places ≤ most_places
  few = omega (arith, same.0, w.few_places)

  -- a choice goes on from no place set
  going_on : (d : List ℕ) → Choice m s d → GoingOn G s 0 none_set d
  going_on d h = (
    λ q a b. absurd (omega arith),
    λ q a b. let k = h.1 q a b in (k.0, subst (λ x. version d q ≤ x) (sym (versions_inside m q a (omega (arith, same.0)))) k.1),
  )

  total_inside : (d : List ℕ) → Choice m s d → (row : ℕ) → row ≤ last_row s → total G s row d ≡ total m s row d
  total_inside d h row r =
      joined_same (joining_of s row) _ _ s.places (λ q a b. let k = h.1 q a b in amount_inside m row q (version d q) (omega (arith, same.1)) a (omega (arith, same.0)) k.0 k.1)

  kept_of : (d : List ℕ) → Choice m s d → Keeps m s (limit_of s) d → all_kept G s d ≡ true
  kept_of d h k =
      all_from (row_kept G s d) (suc (last_row s))
      (λ row r. ap not (subst (λ x. (joining_of s row).worse x (limit_of s row) ≡ false) (sym (total_inside d h row (omega arith))) (k row (omega arith))))

  keeps_of : (d : List ℕ) → Choice m s d → all_kept G s d ≡ true → Keeps m s (limit_of s) d
  keeps_of d h k row r =
      subst (λ x. (joining_of s row).worse x (limit_of s row) ≡ false) (total_inside d h row r) (not-true _ (all_at (row_kept G s d) (suc (last_row s)) row k (omega arith)))

  module _ (f : Found) (x : FirstOf G s (GoingOn G s 0 none_set) f) where
    abbrev c : List ℕ
    c = named s f.versions

    long : length c ≡ s.places
    long = length-take s.places f.versions ∙ omega (arith, x.long, few)

    front : SameTo G s s.places c f.versions
    front q a b = get_or-take s.places f.versions (q - 1) 0 (omega arith)

    chosen : Choice m s c
    chosen = (
      long,
      λ q a b.
          let k = x.one.1 q a b in
          (subst (λ y. 1 ≤ y) (sym (front q a b)) k.0, subst (λ y. y ≤ m.versions q) (sym (front q a b)) (subst (λ y. version f.versions q ≤ y) (versions_inside m q a (omega (arith, same.0))) k.1)),
    )

    costs : f.price ≡ price m s c
    costs = x.costs ∙ sym (total_same G s 0 c f.versions front) ∙ total_inside c chosen 0 (omega arith)

    not_later : (d : List ℕ) → Choice m s d → Keeps m s (limit_of s) d → NoLater G s f d
    not_later d h k = x.first d (going_on d h) (kept_of d h k)

    lowest : (d : List ℕ) → Choice m s d → NoLater G s f d → price m s c ≤ℤ price m s d
    lowest d h (inl lt) = omega (arith, ints, costs, total_inside d h 0 (omega arith))
    lowest d h (inr eq) = omega (arith, ints, eq.0, costs, total_inside d h 0 (omega arith))

    -- a choice with the versions that were found is the one named
    same_choice : (d : List ℕ) → Choice m s d → SameTo G s s.places d f.versions → d ≡ c
    same_choice d h e =
        ext_get_or 0 d c (h.0 ∙ sym long)
        (λ i l.
        let at : suc i - 1 ≡ i = omega arith in
        subst (λ y. get_or d y 0 ≡ get_or c y 0) at (e (suc i) (omega arith) (omega (arith, h.0)) ∙ sym (front (suc i) (omega arith) (omega (arith, h.0)))))

    -- what comes after the table found comes after the choice named
    before_choice : (d : List ℕ) → Choice m s d → Before f.versions d → Before c d
    before_choice d h b =
        let there : b.place ≤ s.places = elim (cases_lt s.places b.place) [
          | inl past ↦ let none : version d b.place ≡ 0 = get_or_past d (b.place - 1) 0 (omega (arith, h.0)) in absurd (omega (arith, b.lower))
          | inr in-it ↦ in-it
        ] in
        record {
          place = b.place;
          numbered = b.numbered;
          lower = subst (λ y. y < version d b.place) (sym (front b.place b.numbered there)) b.lower;
          first = λ q a l. front q a (omega arith) ∙ b.first q a l;
        }

    first : (d : List ℕ) → Choice m s d → price m s d ≡ f.price → NoLater G s f d → (d ≡ c) ⊎ Before c d
    first d h e (inl lt) = absurd (omega (arith, ints, total_inside d h 0 (omega arith)))
    first d h e (inr eq) = elim eq.1 [ inl alike ↦ inl (same_choice d h alike) | inr b ↦ inr (before_choice d h b) ]

    first_cheapest : FirstCheapest m s f
    first_cheapest =
        record {
          cheapest = (chosen, keeps_of c chosen (kept_same G s c f.versions front ∙ x.keeps), λ d h k. lowest d h (not_later d h k));
          costs = costs;
          first = λ d h k e. first d h e (not_later d h k);
        }

  right_found : KnownKinds s → (o : Option Found) → FoundOf G s (GoingOn G s 0 none_set) o → RightAnswer m s (Ok o)
  right_found known None h = (same, known, λ d c k. h d (going_on d c) (kept_of d c k))
  right_found known (Some f) h = (same, known, first_cheapest f h)

  every_choice : FoundOf G s (GoingOn G s 0 none_set) (all_tried m s)
  every_choice =
      let none : s.places - s.places ≡ 0 = omega arith in
      subst (λ i. FoundOf G s (GoingOn G s i none_set) (tried G s s.places none_set)) none (tried_found G s s.places none_set (omega arith) few (length-replicate {A = ℕ} most_places 0))

kinds_there : (s : Sheet) → kinds_known s ≡ true → KnownKinds s
kinds_there s h r a b = kind_there (kind_of s r) (all_at (kind_known s) (suc (last_row s)) r h (omega arith))

there_kinds : (s : Sheet) → KnownKinds s → kinds_known s ≡ true
there_kinds s h = all_from (kind_known s) (suc (last_row s)) (λ r l. at r l)
  where
    at : (r : ℕ) → r < suc (last_row s) → kind_known s r ≡ true
    at zero l = refl
    at (suc r) l = let k = h (suc r) (omega arith) (omega arith) in subst (λ n. is_some (kind_numbered n) ≡ true) k.1 (there_kind k.0)

pub right_answer : (m : Meaning) → SoundMeaning m → (s : Sheet) → RightAnswer m s (answer m s)
right_answer m w s =
    cond_both (counts_same m s) _ _ (RightAnswer m s)
    (λ e.
    let p = and_parts _ _ e in
    let same : SameCounts m s = (eqb-true _ _ p.0, eqb-true _ _ p.1) in
    cond_both (kinds_known s) _ _ (RightAnswer m s)
    (λ k. right_found m w s same (kinds_there s k) (all_tried m s) (every_choice m w s same))
    (λ k. inr (refl, same, λ known. clash (there_kinds s known) k)))
    (λ e. inl (refl, λ same. clash (and_from _ _ (eq-eqb _ _ same.0) (eq-eqb _ _ same.1)) e))

pub right_where : (m : Meaning) → SoundMeaning m → (s : Sheet) (r : Result (Option Found) Refusal) → r ≡ answer m s → RightAnswer m s r
right_where m w s r e = subst (RightAnswer m s) (sym e) (right_answer m w s)
