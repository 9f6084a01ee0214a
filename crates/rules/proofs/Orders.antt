-- Choices by place and by position. Assumes nothing.
use Rattle.std.proofs.Common.{◌≡◌, ℕ, zero, suc, ◌+◌, ◌-◌, ◌<◌, ◌≤◌, eqb, List, [], ◌∷◌, ◌++◌, map, length, get_or, ℤ, sym, refl, ap, ◌∙◌, subst, ap₂, inl, inr, append_assoc, arith, length-append}
use lib.ListN.{length-map}
use Rattle.std.specs.List.{AllByRecursion}
use Rattle.std.proofs.ByRecursion.{All-weaker}
use Rattle.std.proofs.lemmas.Bool.{cond-true, cond-false, eq-eqb, ne_eqb}
use Rattle.rules.specs.Joinings.{Joining, Laws, joined_over}
use Rattle.rules.specs.Sheets.{AnyByRecursion, EachOnce}
use Rattle.rules.specs.Grounds.{Part, Proper, Setting, open_places, part_total}
use Rattle.rules.specs.Settings.{place_at, version_in}
use Rattle.rules.proofs.ByPosition.{Complete}
use Rattle.rules.proofs.Joined.{joined_on}

-- what is chosen from, by place
pub record Offer : Type 0 where
  pub places : ℕ
  pub last_row : ℕ
  pub joining : ℕ → Joining
  pub versions : ℕ → ℕ
  pub amount : ℕ → ℕ → ℕ → ℤ

-- the setting in which the places stand in an order
abbrev pub in_order : Offer → List ℕ → Setting
in_order O order =
    record {
      places = O.places;
      last_row = O.last_row;
      joining = O.joining;
      versions = λ p. O.versions (place_at order p);
      amount = λ row p v. O.amount row (place_at order p) v;
    }

-- a version that there is, for each place
abbrev pub Chosen : Offer → (ℕ → ℕ) → Type 0
Chosen O choice = (q : ℕ) → 1 ≤ q → q ≤ O.places → (1 ≤ choice q) × (choice q ≤ O.versions q)

-- ys is xs with q put in
data Inserted (q : ℕ) : List ℕ → List ℕ → Type 0 where
  here : {xs : List ℕ} → Inserted q xs (q ∷ xs)
  there : {x : ℕ} {xs ys : List ℕ} → Inserted q xs ys → Inserted q (x ∷ xs) (x ∷ ys)

taken_out : (q : ℕ) (ys : List ℕ) → AnyByRecursion (λ x. x ≡ q) ys → (xs : List ℕ) × Inserted q xs ys
taken_out q [] h = absurd h
taken_out q (y ∷ ys) (inl e) = (ys, subst (λ x. Inserted q ys (x ∷ ys)) (sym e) here)
taken_out q (y ∷ ys) (inr h) = let r = taken_out q ys h in (y ∷ r.0, there r.1)

inserted_length : {q : ℕ} {xs ys : List ℕ} → Inserted q xs ys → length ys ≡ suc (length xs)
inserted_length here = refl
inserted_length (there i) = ap suc (inserted_length i)

inserted_any : {q : ℕ} {xs ys : List ℕ} → Inserted q xs ys → (r : ℕ) → (r ≡ q → ⊥) → AnyByRecursion (λ x. x ≡ r) ys → AnyByRecursion (λ x. x ≡ r) xs
inserted_any here r d (inl e) = absurd (d (sym e))
inserted_any here r d (inr h) = h
inserted_any (there i) r d (inl e) = inl e
inserted_any (there i) r d (inr h) = inr (inserted_any i r d h)

inserted_all : {q : ℕ} {xs ys : List ℕ} (P : ℕ → Type 0) → Inserted q xs ys → P q → AllByRecursion P xs → AllByRecursion P ys
inserted_all P here p h = (p, h)
inserted_all P (there i) p h = (h.0, inserted_all P i p h.1)

-- no element comes twice
abbrev pub Distinct : List ℕ → Type 0
Distinct [] = Unit {0}
Distinct (x ∷ xs) = AllByRecursion (λ y. x ≡ y → ⊥) xs × Distinct xs

inserted_distinct : {q : ℕ} {xs ys : List ℕ} → Inserted q xs ys → AllByRecursion (λ y. q ≡ y → ⊥) xs → Distinct xs → Distinct ys
inserted_distinct here a h = (a, h)
inserted_distinct {q} (there {x = x} i) a h = (inserted_all (λ y. x ≡ y → ⊥) i (λ e. a.0 (sym e)) h.0, inserted_distinct i a.1 h.1)

once_less : (n : ℕ) (ys xs : List ℕ) → EachOnce (suc n) ys → Inserted (suc n) xs ys → EachOnce n xs
once_less n ys xs h i =
    (omega (arith, h.0, inserted_length i), λ q a b. inserted_any i q (λ e. omega arith) (h.1 q a (omega arith)))

-- an order lists places that there are, and none twice
pub once_fine : (n : ℕ) (ys : List ℕ) → EachOnce n ys → AllByRecursion (λ x. (1 ≤ x) × (x ≤ n)) ys × Distinct ys
once_fine zero [] h = (tt, tt)
once_fine zero (y ∷ ys) h = absurd (omega (arith, h.0))
once_fine (suc n) ys h =
    let r = taken_out (suc n) ys (h.1 (suc n) (omega arith) (omega arith)) in
    let f = once_fine n r.0 (once_less n ys r.0 h r.1) in (
      inserted_all (λ x. (1 ≤ x) × (x ≤ suc n)) r.1 (omega arith, omega arith) (All-weaker (λ x. (1 ≤ x) × (x ≤ n)) (λ x. (1 ≤ x) × (x ≤ suc n)) (λ x p. (p.0, omega (arith, p.1))) r.0 f.0),
      inserted_distinct r.1 (All-weaker (λ x. (1 ≤ x) × (x ≤ n)) (λ y. suc n ≡ y → ⊥) (λ x p e. omega (arith, p.1)) r.0 f.0) f.1,
    )

module _ (J : Joining) (laws : Laws J) (f : ℕ → ℤ) where
  -- joined onto the unit over a list
  over : List ℕ → ℤ
  over [] = J.unit
  over (x ∷ xs) = J.join (over xs) (f x)

  swap_last : (a b c : ℤ) → J.join (J.join a b) c ≡ J.join (J.join a c) b
  swap_last a b c = laws.assoc a b c ∙ ap (J.join a) (laws.comm b c) ∙ sym (laws.assoc a c b)

  over_inserted : {q : ℕ} {xs ys : List ℕ} → Inserted q xs ys → over ys ≡ J.join (over xs) (f q)
  unfolding over
  over_inserted here = refl
  over_inserted {q} (there {x = x} {xs = xs} i) = ap (λ z. J.join z (f x)) (over_inserted i) ∙ swap_last (over xs) (f q) (f x)

  over_once : (n : ℕ) (ys : List ℕ) → EachOnce n ys → over ys ≡ joined_over J f n
  unfolding over
  over_once zero [] h = refl
  over_once zero (y ∷ ys) h = absurd (omega (arith, h.0))
  over_once (suc n) ys h =
      let r = taken_out (suc n) ys (h.1 (suc n) (omega arith) (omega arith)) in
      over_inserted r.1 ∙ ap (λ z. J.join z (f (suc n))) (over_once n r.0 (once_less n ys r.0 h r.1))

at_seam : (pre : List ℕ) (q : ℕ) (rest : List ℕ) → get_or (pre ++ (q ∷ rest)) (length pre) 0 ≡ q
at_seam [] q rest = refl
at_seam (x ∷ pre) q rest = at_seam pre q rest

pub map_same : (f g : ℕ → ℕ) (xs : List ℕ) → AllByRecursion (λ x. f x ≡ g x) xs → map f xs ≡ map g xs
map_same f g [] h = refl
map_same f g (x ∷ xs) h = ap₂ ◌∷◌ h.0 (map_same f g xs h.1)

pub find_map : (xs : List ℕ) (c : Part) → length c ≡ length xs → Distinct xs → map (version_in xs c) xs ≡ c
find_map [] [] e d = refl
find_map [] (v ∷ c) e d = absurd (omega arith)
find_map (x ∷ xs) [] e d = absurd (omega arith)
find_map (x ∷ xs) (v ∷ c) e d =
    ap₂ ◌∷◌ (cond-true (eqb x x) v (version_in xs c x) (eq-eqb x x refl))
    (map_same (version_in (x ∷ xs) (v ∷ c)) (version_in xs c) xs (All-weaker (λ y. x ≡ y → ⊥) (λ y. version_in (x ∷ xs) (v ∷ c) y ≡ version_in xs c y) (λ y n. cond-false (eqb x y) v (version_in xs c y) (ne_eqb x y n)) xs d.0)
    ∙ find_map xs c (omega arith) d.1)

module _ (O : Offer) (order : List ℕ) (once : EachOnce O.places order) where
  -- the place at the position set next before the rest of the order
  position : (pre : List ℕ) (q : ℕ) (rest : List ℕ) → pre ++ (q ∷ rest) ≡ order → (c : Part) → length c ≡ length rest → get_or order (O.places - length c - 1) 0 ≡ q
  position pre q rest e c l =
      let n : length pre + suc (length rest) ≡ O.places = sym (length-append pre (q ∷ rest)) ∙ ap length e ∙ once.0 in
      ap₂ (λ xs i. get_or xs i 0) (sym e) (omega arith) ∙ at_seam pre q rest

  more_pre : (pre : List ℕ) (q : ℕ) (rest : List ℕ) → pre ++ (q ∷ rest) ≡ order → (pre ++ (q ∷ [])) ++ rest ≡ order
  more_pre pre q rest e = append_assoc pre (q ∷ []) rest ∙ e

  rest_length : (pre rest : List ℕ) → pre ++ rest ≡ order → length rest ≤ O.places
  rest_length pre rest e = omega (arith, length-append pre rest, ap length e, once.0)

  proper : (choice : ℕ → ℕ) → (pre rest : List ℕ) → pre ++ rest ≡ order → AllByRecursion (λ x. (1 ≤ choice x) × (choice x ≤ O.versions x)) rest → Proper (in_order O order) (map choice rest)
  proper choice pre [] e h = tt
  proper choice pre (q ∷ rest) e h =
      let l = length-map rest choice in (
        omega (arith, l, rest_length pre (q ∷ rest) e),
        h.0.0,
        subst (λ x. choice q ≤ O.versions x) (sym (position pre q rest e (map choice rest) l)) h.0.1,
        proper choice (pre ++ (q ∷ [])) rest (more_pre pre q rest e) h.1,
      )

  summed : (row : ℕ) (laws : Laws (O.joining row)) (choice : ℕ → ℕ) (pre rest : List ℕ) → pre ++ rest ≡ order → part_total (in_order O order) row (map choice rest) ≡ over (O.joining row) laws (λ q. O.amount row q (choice q)) rest
  unfolding over
  summed row laws choice pre [] e = refl
  summed row laws choice pre (q ∷ rest) e =
      let l : length (map choice rest) ≡ length rest = length-map rest choice in
      let some : 0 < open_places (in_order O order) (map choice rest) = omega (arith, rest_length pre (q ∷ rest) e) in
      joined_on (in_order O order) row 0 (O.joining row).unit (choice q) (map choice rest) some
      ∙ ap₂ (λ x y. (O.joining row).join x (O.amount row y (choice q))) (summed row laws choice (pre ++ (q ∷ [])) rest (more_pre pre q rest e)) (position pre q rest e (map choice rest) l)

  -- the versions of a choice by position are there for its places
  pub versions_there : (choice : ℕ → ℕ) (pre rest : List ℕ) → pre ++ rest ≡ order → Proper (in_order O order) (map choice rest) → AllByRecursion (λ x. (1 ≤ choice x) × (choice x ≤ O.versions x)) rest
  versions_there choice pre [] e h = tt
  versions_there choice pre (q ∷ rest) e h =
      let l = length-map rest choice in
      ((h.1, subst (λ x. choice q ≤ O.versions x) (position pre q rest e (map choice rest) l) h.2), versions_there choice (pre ++ (q ∷ [])) rest (more_pre pre q rest e) h.3)

  pub any_of : (P : ℕ → Type 0) (xs : List ℕ) (q : ℕ) → AllByRecursion P xs → AnyByRecursion (λ x. x ≡ q) xs → P q
  any_of P [] q h m = absurd m
  any_of P (x ∷ xs) q h (inl e) = subst P e h.0
  any_of P (x ∷ xs) q h (inr m) = any_of P xs q h.1 m

  pub choice_in_order : (choice : ℕ → ℕ) → Chosen O choice → Complete (in_order O order) (map choice order)
  choice_in_order choice h = (
    length-map order choice ∙ once.0,
    proper choice [] order refl (All-weaker (λ x. (1 ≤ x) × (x ≤ O.places)) (λ x. (1 ≤ choice x) × (choice x ≤ O.versions x)) (λ x p. h x p.0 p.1) order (once_fine O.places order once).0),
  )

  -- it does not matter in which order the places are taken
  pub total_in_order : (row : ℕ) → Laws (O.joining row) → (choice : ℕ → ℕ) → part_total (in_order O order) row (map choice order) ≡ joined_over (O.joining row) (λ q. O.amount row q (choice q)) O.places
  total_in_order row laws choice = summed row laws choice [] order refl ∙ over_once (O.joining row) laws (λ x. O.amount row x (choice x)) O.places order once
