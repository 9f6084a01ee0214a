-- The first ground that stands, and what keeps it standing. Assumes nothing.
use Rattle.std.proofs.Common.{◌≡◌, ℕ, ◌≤◌, true, false, leb, List, [], ◌∷◌, ◌++◌, ℤ, is_some, Some, None, Option, sym, refl, ap, subst, inl, inr, arith}
use Rattle.std.specs.List.{AllByRecursion}
use Rattle.std.proofs.lemmas.Bool.{cases_eq, cond-true, cond-false, cond_both, and_parts, and_from, le-leb, leb-true}
use Rattle.rules.specs.Sheets.{Limits}
use Rattle.rules.specs.Grounds.{Ground, Part, Setting, blocked, first_standing, open_places, stands}
use Rattle.rules.specs.Search.{State, stopped}
use Rattle.rules.proofs.Bools.{split, clash}
use Rattle.rules.proofs.Joined.{joined_off}

-- P of what an option holds, if anything
abbrev pub Holds : {A : Type 0} → (A → Type 0) → Option A → Type 0
Holds P None = Unit {0}
Holds P (Some x) = P x

pub some_of : {A : Type 0} (o : Option A) → is_some o ≡ true → (x : A) × (o ≡ Some x)
some_of None h = clash {b = false} h refl
some_of (Some x) h = (x, refl)

pub none_of : {A : Type 0} (o : Option A) → is_some o ≡ false → o ≡ None
none_of None h = refl
none_of (Some x) h = clash {b = true} refl h

module _ (S : Setting) where
  -- a ground that is first to stand stands, and is what all of the list are
  pub first_holds : (P : Ground → Type 0) (L : Limits) (s : Part) (gs : List Ground) → AllByRecursion P gs → Holds (λ g. P g × (stands S L s g ≡ true)) (first_standing S L gs s)
  first_holds P L s [] h = tt
  first_holds P L s (g ∷ gs) h =
      cond_both (stands S L s g) (Some g) (first_standing S L gs s) (Holds (λ g. P g × (stands S L s g ≡ true)))
      (λ e. (h.0, e))
      (λ e. first_holds P L s gs h.1)

  pub blocked_here : (L : Limits) (s : Part) (g : Ground) (gs : List Ground) → stands S L s g ≡ true → blocked S L (g ∷ gs) s ≡ true
  blocked_here L s g gs h = ap is_some (cond-true (stands S L s g) (Some g) (first_standing S L gs s) h)

  pub blocked_there : (L : Limits) (s : Part) (g : Ground) (gs : List Ground) → blocked S L gs s ≡ true → blocked S L (g ∷ gs) s ≡ true
  blocked_there L s g gs h = cond_both (stands S L s g) (Some g) (first_standing S L gs s) (λ o. is_some o ≡ true) (λ e. refl) (λ e. h)

  -- a list that grows keeps what it blocks
  pub blocked_left : (L : Limits) (s : Part) (gs hs : List Ground) → blocked S L gs s ≡ true → blocked S L (gs ++ hs) s ≡ true
  blocked_left L s [] hs h = clash {b = false} h refl
  blocked_left L s (g ∷ gs) hs h =
      split (stands S L s g)
      (λ e. blocked_here L s g (gs ++ hs) e)
      (λ e. blocked_there L s g (gs ++ hs) (blocked_left L s gs hs (subst (λ o. is_some o ≡ true) (cond-false (stands S L s g) (Some g) (first_standing S L gs s) e) h)))

  pub blocked_right : (L : Limits) (s : Part) (gs hs : List Ground) → blocked S L hs s ≡ true → blocked S L (gs ++ hs) s ≡ true
  blocked_right L s [] hs h = h
  blocked_right L s (g ∷ gs) hs h = blocked_there L s g (gs ++ hs) (blocked_right L s gs hs h)

  -- limits M under which all breaks that breaks under L
  abbrev pub Tighter : Limits → Limits → Type 0
  Tighter L M = (row : ℕ) (x : ℤ) → (S.joining row).worse x (L row) ≡ true → (S.joining row).worse x (M row) ≡ true

  pub stands_tighter : (L M : Limits) (s : Part) → Tighter L M → (g : Ground) → stands S L s g ≡ true → stands S M s g ≡ true
  stands_tighter L M s m [] h = refl
  stands_tighter L M s m (l ∷ g) h =
      let parts = and_parts _ _ h in
      let here = and_parts (leb (open_places S s) l.level) _ parts.0 in
      and_from _ _ (and_from _ _ here.0 (m l.row _ here.1)) (stands_tighter L M s m g parts.1)

  pub blocked_tighter : (L M : Limits) (s : Part) → Tighter L M → (gs : List Ground) → blocked S L gs s ≡ true → blocked S M gs s ≡ true
  blocked_tighter L M s m [] h = h
  blocked_tighter L M s m (g ∷ gs) h =
      split (stands S L s g)
      (λ e. blocked_here M s g gs (stands_tighter L M s m g e))
      (λ e. blocked_there M s g gs (blocked_tighter L M s m gs (subst (λ o. is_some o ≡ true) (cond-false (stands S L s g) (Some g) (first_standing S L gs s) e) h)))

  -- a ground that stands still stands when one more version is set
  pub stands_below : (L : Limits) (v : ℕ) (t : Part) (g : Ground) → stands S L t g ≡ true → stands S L (v ∷ t) g ≡ true
  stands_below L v t [] h = refl
  stands_below L v t (l ∷ g) h =
      let parts = and_parts _ _ h in
      let here = and_parts (leb (open_places S t) l.level) _ parts.0 in
      let q : open_places S t ≤ l.level = leb-true _ _ here.0 in
      and_from _ _
      (and_from (leb (open_places S (v ∷ t)) l.level) _ (le-leb _ _ (omega arith)) (rw (joined_off S l.row l.level l.constant v t q) here.1))
      (stands_below L v t g parts.1)

module _ (S : Setting) (L : Limits) where
  -- with the version at hand taken back in
  pub every_version : (σ : State) (v : ℕ) (t : Part) → stopped S L σ (v ∷ t) ≡ true → (x : ℕ) → ((x ≡ v → ⊥) → stopped S L σ (x ∷ t) ≡ true) → stopped S L σ (x ∷ t) ≡ true
  every_version σ v t h x other =
      elim (cases_eq x v) [ inl e ↦ subst (λ y. stopped S L σ (y ∷ t) ≡ true) (sym e) h | inr d ↦ other d ]
