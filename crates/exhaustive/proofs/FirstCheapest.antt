-- What is found when every choice is tried is the first of the cheapest. Assumes nothing.
use Rattle.std.proofs.Common.{◌≡◌, ℕ, zero, suc, ◌-◌, ◌<◌, ◌≤◌, true, not, ◌⊎◌, List, length, get_or, set, ◌≤ℤ◌, ◌<ℤ◌, Some, None, Option, sym, refl, ap, ◌∙◌, subst, inl, inr, arith, length-set}
use Rattle.std.specs.Prelude.{int_lt}
use Rattle.std.proofs.lemmas.List.{get_or-set_same, get_or-set_other}
use Rattle.std.proofs.lemmas.Int.{ints, by_lt_z}
use Rattle.std.proofs.lemmas.Bool.{cond_both, cases_lt}
use Rattle.rules.specs.declared.sheets.Sheet.{Sheet}
use Rattle.rules.specs.Bounds.{most_places}
use Rattle.rules.specs.Catalogues.{Meaning}
use Rattle.rules.specs.Sheets.{last_row, joining_of, limit_of}
use Rattle.rules.specs.Choices.{version, total, price}
use Rattle.rules.proofs.Bools.{clash}
use Rattle.rules.proofs.Inside.{joined_same}
use Rattle.exhaustive.specs.declared.found.Found.{Found}
use Rattle.exhaustive.specs.Answers.{Before}
use Rattle.exhaustive.specs.Trials.{cheaper, cheapest_to, row_kept, all_kept, judged, tried}
use Rattle.exhaustive.proofs.KeptRows.{all_same}

module _ (m : Meaning) (s : Sheet) where
  -- two tables have the same versions for the places up to one
  abbrev pub SameTo : ℕ → List ℕ → List ℕ → Type 0
  SameTo n c d = (q : ℕ) → 1 ≤ q → q ≤ n → version c q ≡ version d q

  -- each place above one has a version that there is
  abbrev pub ThereAbove : ℕ → List ℕ → Type 0
  ThereAbove i d = (q : ℕ) → i < q → q ≤ s.places → (1 ≤ version d q) × (version d q ≤ m.versions q)

  -- the choices with the versions given up to a place
  abbrev pub GoingOn : ℕ → List ℕ → List ℕ → Type 0
  GoingOn i c d = SameTo i d c × ThereAbove i d

  pub total_same : (row : ℕ) (c d : List ℕ) → SameTo s.places c d → total m s row c ≡ total m s row d
  total_same row c d h = joined_same (joining_of s row) _ _ s.places (λ q a b. ap (m.amount row q) (h q a b))

  pub kept_same : (c d : List ℕ) → SameTo s.places c d → all_kept m s c ≡ all_kept m s d
  kept_same c d h = all_same (row_kept m s c) (row_kept m s d) (suc (last_row s)) (λ row. ap (λ x. not ((joining_of s row).worse x (limit_of s row))) (total_same row c d h))

  -- what was found is cheaper than a choice, or costs the same and is or comes before it
  abbrev pub NoLater : Found → List ℕ → Type 0
  NoLater f d = (f.price <ℤ price m s d) ⊎ ((f.price ≡ price m s d) × (SameTo s.places d f.versions ⊎ Before f.versions d))

  -- what was found among the choices with a property
  pub record FirstOf (P : List ℕ → Type 0) (f : Found) : Type 0 where
    pub one : P f.versions
    pub keeps : all_kept m s f.versions ≡ true
    pub costs : f.price ≡ price m s f.versions
    pub long : length f.versions ≡ most_places
    pub first : (d : List ℕ) → P d → all_kept m s d ≡ true → NoLater f d

  abbrev pub FoundOf : (List ℕ → Type 0) → Option Found → Type 0
  FoundOf P None = (d : List ℕ) → P d → all_kept m s d ≡ true → ⊥
  FoundOf P (Some f) = FirstOf P f

  found_same : (P Q : List ℕ → Type 0) → ((d : List ℕ) → P d → Q d) → ((d : List ℕ) → Q d → P d) → (o : Option Found) → FoundOf P o → FoundOf Q o
  found_same P Q to from None h = λ d q k. h d (from d q) k
  found_same P Q to from (Some f) h =
      record { one = to f.versions h.one; keeps = h.keeps; costs = h.costs; long = h.long; first = λ d q k. h.first d (from d q) k }

  -- of two that were found, where all choices of the one kind come before those of the other
  module _ (P Q : List ℕ → Type 0) (apart : (c d : List ℕ) → P c → Q d → Before c d) where
    abbrev Either : List ℕ → Type 0
    Either d = P d ⊎ Q d

    price_of : (f : Found) (d : List ℕ) → NoLater f d → (f.price <ℤ price m s d) ⊎ (f.price ≡ price m s d)
    price_of f d (inl h) = inl h
    price_of f d (inr h) = inr h.0

    second_cheaper : (f g : Found) → FirstOf P f → FirstOf Q g → g.price <ℤ f.price → FirstOf Either g
    second_cheaper f g x y h =
        record {
          one = inr y.one;
          keeps = y.keeps;
          costs = y.costs;
          long = y.long;
          first = λ d e k. elim e [
            | inl p ↦ elim (price_of f d (x.first d p k)) [ inl lt ↦ inl (omega (arith, ints)) | inr eq ↦ inl (omega (arith, ints)) ]
            | inr q ↦ y.first d q k
          ];
        }

    not_cheaper : (f g : Found) (d : List ℕ) → f.price ≤ℤ g.price → (g.price <ℤ price m s d) ⊎ (g.price ≡ price m s d) → Before f.versions d → NoLater f d
    not_cheaper f g d h (inl k) b = inl (omega (arith, ints))
    not_cheaper f g d h (inr k) b =
        by_lt_z f.price g.price (λ lt. inl (omega (arith, ints))) (λ le. inr (omega (arith, ints), inr b))

    first_stays : (f g : Found) → FirstOf P f → FirstOf Q g → f.price ≤ℤ g.price → FirstOf Either f
    first_stays f g x y h =
        record {
          one = inl x.one;
          keeps = x.keeps;
          costs = x.costs;
          long = x.long;
          first = λ d e k. elim e [
            | inl p ↦ x.first d p k
            | inr q ↦ not_cheaper f g d h (price_of g d (y.first d q k)) (apart f.versions d x.one q)
          ];
        }

    cheaper_found : (a b : Option Found) → FoundOf P a → FoundOf Q b → FoundOf Either (cheaper a b)
    cheaper_found None None x y = λ d e k. elim e [ inl p ↦ x d p k | inr q ↦ y d q k ]
    cheaper_found None (Some g) x y =
        record { one = inr y.one; keeps = y.keeps; costs = y.costs; long = y.long; first = λ d e k. elim e [ inl p ↦ absurd (x d p k) | inr q ↦ y.first d q k ] }
    cheaper_found (Some f) None x y =
        record { one = inl x.one; keeps = x.keeps; costs = x.costs; long = x.long; first = λ d e k. elim e [ inl p ↦ x.first d p k | inr q ↦ absurd (y d q k) ] }
    cheaper_found (Some f) (Some g) x y =
        cond_both (int_lt g.price f.price) (Some g) (Some f) (FoundOf Either)
        (λ e. second_cheaper f g x y (grind (arith, ints)))
        (λ e. first_stays f g x y (grind (arith, ints)))

  -- one choice, judged
  judged_found : (c : List ℕ) → length c ≡ most_places → FoundOf (GoingOn s.places c) (judged m s c)
  judged_found c long =
      cond_both (all_kept m s c) (Some (record { versions = c; price = price m s c })) None (FoundOf (GoingOn s.places c))
      (λ e. record {
        one = (λ q a b. refl, λ q a b. absurd (omega arith));
        keeps = e;
        costs = refl;
        long = long;
        first = λ d p k. inr (total_same 0 c d (λ q a b. sym (p.0 q a b)), inl p.0);
      })
      (λ e d p k. clash k (kept_same d c p.0 ∙ e))

  -- the versions of the place after i, from 1 up to one
  module _ (i : ℕ) (c : List ℕ) (within : i < length c) where
    -- the choices with the versions given up to i, and at the next place a version up to v
    abbrev UpTo : ℕ → List ℕ → Type 0
    UpTo v d = SameTo i d c × (1 ≤ version d (suc i)) × (version d (suc i) ≤ v) × ThereAbove (suc i) d

    version_set : (v : ℕ) → version (set c i v) (suc i) ≡ v
    version_set v = let at : suc i - 1 ≡ i = omega arith in ap (λ x. get_or (set c i v) x 0) at ∙ get_or-set_same c i v 0 within

    version_kept : (v q : ℕ) → 1 ≤ q → q ≤ i → version (set c i v) q ≡ version c q
    version_kept v q a b = get_or-set_other c i (q - 1) v 0 (λ e. omega arith)

    put_in : (v : ℕ) (d : List ℕ) → UpTo v d ⊎ GoingOn (suc i) (set c i (suc v)) d → UpTo (suc v) d
    put_in v d (inl h) = (h.0, h.1, omega (arith, h.2), h.3)
    put_in v d (inr h) =
        let here : version d (suc i) ≡ suc v = h.0 (suc i) (omega arith) (omega arith) ∙ version_set (suc v) in
        (λ q a b. h.0 q a (omega arith) ∙ version_kept (suc v) q a b, omega arith, omega arith, h.1)

    taken_apart : (v : ℕ) (d : List ℕ) → UpTo (suc v) d → UpTo v d ⊎ GoingOn (suc i) (set c i (suc v)) d
    taken_apart v d h =
        elim (cases_lt v (version d (suc i))) [
          | inr le ↦ inl (h.0, h.1, le, h.3)
          | inl lt ↦ inr (
            λ q a b. elim (cases_lt i q) [
              | inl up ↦ let e : suc i ≡ q = omega arith in let k : version d (suc i) ≡ suc v = omega (arith, h.2) in subst (λ x. version d x ≡ version (set c i (suc v)) x) e (k ∙ sym (version_set (suc v)))
              | inr down ↦ h.0 q a down ∙ sym (version_kept (suc v) q a down)
            ],
            h.3,
          )
        ]

    lower_before : (v : ℕ) (d e : List ℕ) → UpTo v d → GoingOn (suc i) (set c i (suc v)) e → Before d e
    lower_before v d e x y =
        let here : version e (suc i) ≡ suc v = y.0 (suc i) (omega arith) (omega arith) ∙ version_set (suc v) in
        record {
          place = suc i;
          numbered = omega arith;
          lower = omega (arith, x.2);
          first = λ q a b. x.0 q a (omega arith) ∙ sym (y.0 q a (omega arith) ∙ version_kept (suc v) q a (omega arith));
        }

    versions_found : (found : List ℕ → Option Found) → ((v : ℕ) → FoundOf (GoingOn (suc i) (set c i v)) (found (set c i v))) → (v : ℕ) → FoundOf (UpTo v) (cheapest_to (λ x. found (set c i x)) v)
    versions_found found each zero = λ d h k. omega (arith, h.1, h.2)
    versions_found found each (suc v) =
        found_same _ (UpTo (suc v)) (put_in v) (taken_apart v) _
        (cheaper_found (UpTo v) (GoingOn (suc i) (set c i (suc v))) (lower_before v) _ _ (versions_found found each v) (each (suc v)))

  pub tried_found : (left : ℕ) (c : List ℕ) → left ≤ s.places → s.places ≤ most_places → length c ≡ most_places → FoundOf (GoingOn (s.places - left) c) (tried m s left c)
  tried_found zero c h few long = let all : s.places ≡ s.places - 0 = omega arith in subst (λ i. FoundOf (GoingOn i c) (judged m s c)) all (judged_found c long)
  tried_found (suc left) c h few long =
      let i : ℕ = s.places - suc left in
      let next : s.places - left ≡ suc i = omega arith in
      let within : i < length c = omega (arith, long) in
      found_same _ (GoingOn i c)
      (λ d x. (
        x.0,
        λ q a b. elim (cases_lt (suc i) q) [
          | inl up ↦ x.3 q up b
          | inr down ↦ let e : suc i ≡ q = omega arith in subst (λ y. (1 ≤ version d y) × (version d y ≤ m.versions y)) e (x.1, subst (λ y. version d (suc i) ≤ m.versions y) next x.2)
        ],
      ))
      (λ d x. let here = x.1 (suc i) (omega arith) (omega arith) in (x.0, here.0, subst (λ y. version d (suc i) ≤ m.versions y) (sym next) here.1, λ q a b. x.1 q (omega arith) b))
      _
      (versions_found i c within (tried m s left)
      (λ v. subst (λ y. FoundOf (GoingOn y (set c i v)) (tried m s left (set c i v))) next (tried_found left (set c i v) (omega arith) few (length-set c i v ∙ long)))
      (m.versions (s.places - left)))
