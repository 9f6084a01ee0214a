-- What the rules name at a state is what `next` works out. Assumes nothing.
use Rattle.std.proofs.Common.{◌≡◌, ℕ, zero, suc, ◌<◌, ◌≤◌, true, false, cond, eqb, [], ◌∷◌, is_some, Some, None, Option, sym, refl, ap, ◌∙◌, subst, inl, inr, arith}
use Rattle.std.proofs.lemmas.Bool.{cond-true, cond-false, cond_both, cases_lt, eq-eqb, ne_eqb, eqb-true, eqb-false}
use Rattle.rules.specs.Sheets.{Limits}
use Rattle.rules.specs.Grounds.{Ground, Part, Setting, open_places}
use Rattle.rules.specs.Search.{Ended, Full, Learns, Named, State, Step, after_ground, at_part, by_ground, ended, first_ground, found, full, go_on, ground_at, learns, lowest_free, move, next, no_other, no_version, room, set, stepped, stopped, try_place, with_best, with_ground}
use Rattle.rules.proofs.Bools.{clash}
use Rattle.rules.proofs.Firsts.{every_version, some_of, none_of}

module _ (S : Setting) (L : Limits) where
  -- what is known of the lowest free version up to k
  abbrev pub Lowest : State → Part → ℕ → Option ℕ → Type 0
  Lowest σ t k None = (x : ℕ) → 1 ≤ x → x ≤ k → stopped S L σ (x ∷ t) ≡ true
  Lowest σ t k (Some w) = (1 ≤ w) × (w ≤ k) × (stopped S L σ (w ∷ t) ≡ false) × ((x : ℕ) → 1 ≤ x → x < w → stopped S L σ (x ∷ t) ≡ true)

  one_more : (σ : State) (t : Part) (k : ℕ) (o : Option ℕ) → Lowest σ t k o → Lowest σ t (suc k) (elim o [ Some w ↦ Some w | None ↦ cond (stopped S L σ (suc k ∷ t)) None (Some (suc k)) ])
  one_more σ t k (Some w) h = (h.0, omega (arith, h.1), h.2, h.3)
  one_more σ t k None h =
      cond_both (stopped S L σ (suc k ∷ t)) None (Some (suc k)) (Lowest σ t (suc k))
      (λ e x p q. elim (cases_lt k x) [
        | inl r ↦ let d : suc k ≡ x = omega arith in subst (λ y. stopped S L σ (y ∷ t) ≡ true) d e
        | inr r ↦ h x p r
      ])
      (λ e. (omega arith, omega arith, e, λ x p q. h x p (omega arith)))

  pub lowest_is : (σ : State) (t : Part) (k : ℕ) → Lowest σ t k (lowest_free S L σ t k)
  lowest_is σ t zero = λ x p q. absurd (omega arith)
  lowest_is σ t (suc k) = one_more σ t k (lowest_free S L σ t k) (lowest_is σ t k)

  -- the lowest free version, if it is named, is what is worked out
  pub some_lowest : (σ : State) (t : Part) (k w : ℕ) → 1 ≤ w → w ≤ k → stopped S L σ (w ∷ t) ≡ false → ((x : ℕ) → 1 ≤ x → x < w → stopped S L σ (x ∷ t) ≡ true) → (o : Option ℕ) → Lowest σ t k o → o ≡ Some w
  some_lowest σ t k w p q f low None h = clash (h w p q) f
  some_lowest σ t k w p q f low (Some y) h =
      elim (cases_lt y w) [
        | inl r ↦ clash (low y h.0 r) h.2
        | inr r ↦ elim (cases_lt w y) [
          | inl r' ↦ clash (h.3 w p r') f
          | inr r' ↦ let e : y ≡ w = omega arith in ap Some e
        ]
      ]

  pub no_lowest : (σ : State) (t : Part) (k : ℕ) → ((x : ℕ) → 1 ≤ x → x ≤ k → stopped S L σ (x ∷ t) ≡ true) → (o : Option ℕ) → Lowest σ t k o → o ≡ None
  no_lowest σ t k all None h = refl
  no_lowest σ t k all (Some w) h = clash (all w h.0 h.1) h.2

  free_is : (σ : State) (t : Part) (w : ℕ) → 1 ≤ w → w ≤ S.versions (open_places S t) → stopped S L σ (w ∷ t) ≡ false → ((x : ℕ) → 1 ≤ x → x < w → stopped S L σ (x ∷ t) ≡ true) → go_on S L σ t ≡ stepped (at_part σ (w ∷ t))
  free_is σ t w p q f low =
      ap (try_place S L σ t) (some_lowest σ t (S.versions (open_places S t)) w p q f low (lowest_free S L σ t (S.versions (open_places S t))) (lowest_is σ t (S.versions (open_places S t))))

  none_is : (σ : State) (t : Part) → ((x : ℕ) → 1 ≤ x → x ≤ S.versions (open_places S t) → stopped S L σ (x ∷ t) ≡ true) → go_on S L σ t ≡ try_place S L σ t None
  none_is σ t all =
      ap (try_place S L σ t) (no_lowest σ t (S.versions (open_places S t)) all (lowest_free S L σ t (S.versions (open_places S t))) (lowest_is σ t (S.versions (open_places S t))))

  -- the cases of `next`
  next_set : (σ : State) (v : ℕ) (t : Part) → σ.part ≡ v ∷ t → stopped S L σ (v ∷ t) ≡ true → next S L σ ≡ go_on S L σ t
  unfolding next
  next_set σ v t e h =
      let g = some_of (first_ground S L σ (v ∷ t)) h in
      ap (λ s. by_ground S L σ (first_ground S L σ s)) e ∙ ap (by_ground S L σ) g.1 ∙ ap (after_ground S L σ g.0) e

  next_open : (σ : State) → 0 < open_places S σ.part → stopped S L σ σ.part ≡ false → next S L σ ≡ go_on S L σ σ.part
  unfolding next
  next_open σ p f =
      ap (by_ground S L σ) (none_of (first_ground S L σ σ.part) f)
      ∙ cond-false (eqb (open_places S σ.part) 0) _ _ (ne_eqb _ 0 (λ e. omega arith))

  next_found : (σ : State) → open_places S σ.part ≡ 0 → stopped S L σ σ.part ≡ false → next S L σ ≡ stepped (with_best S L σ)
  unfolding next
  next_found σ p f =
      ap (by_ground S L σ) (none_of (first_ground S L σ σ.part) f)
      ∙ cond-true (eqb (open_places S σ.part) 0) _ _ (eq-eqb _ 0 p)

  next_learns : (σ : State) (t : Part) → Learns S L σ t → next S L σ ≡ try_place S L σ t None
  next_learns σ t (no_other v _ e h all) = next_set σ v t e h ∙ none_is σ t (λ x p q. every_version S L σ v t h x (all x p q))
  next_learns σ t (no_version p f all) = next_open σ p f ∙ none_is σ σ.part (λ x a b. all x a b (λ z. z))

  has_space : (σ : State) (t : Part) → room σ.learned (ground_at S L σ t) ≡ true → try_place S L σ t None ≡ stepped (with_ground σ t (ground_at S L σ t))
  has_space σ t h = cond-true (room σ.learned (ground_at S L σ t)) _ _ h

  lacks_space : (σ : State) (t : Part) → room σ.learned (ground_at S L σ t) ≡ false → try_place S L σ t None ≡ full
  lacks_space σ t h = cond-false (room σ.learned (ground_at S L σ t)) _ _ h

  -- a step of the rules is the one worked out
  pub step_next : (σ τ : State) → Step S L σ τ → next S L σ ≡ stepped τ
  step_next σ τ (move v w t e h low d) =
      next_set σ v t e h
      ∙ free_is σ t w low.counted low.there low.free (λ x p q. every_version S L σ v t h x (low.lowest x p q))
      ∙ ap stepped (sym d)
  step_next σ τ (found p f d) = next_found σ p f ∙ ap stepped (sym d)
  step_next σ τ (set w p f low d) =
      next_open σ p f
      ∙ free_is σ σ.part w low.counted low.there low.free (λ x a b. low.lowest x a b (λ z. z))
      ∙ ap stepped (sym d)
  step_next σ τ (learns t l space d) = next_learns σ t l ∙ has_space σ t space ∙ ap stepped (sym d)

  pub full_next : (σ : State) → Full S L σ → next S L σ ≡ full
  full_next σ (t, l, lack) = next_learns σ t l ∙ lacks_space σ t lack

  pub ended_next : (σ : State) (g : Ground) → Ended S L σ g → next S L σ ≡ ended g
  unfolding next
  ended_next σ g h =
      ap (λ s. by_ground S L σ (first_ground S L σ s)) h.0 ∙ ap (by_ground S L σ) h.1 ∙ ap (after_ground S L σ g) h.0

  -- and the other way round: what is worked out is what the rules name
  named_learns : (σ : State) (t : Part) → Learns S L σ t → Named S L σ (try_place S L σ t None)
  named_learns σ t l =
      cond_both (room σ.learned (ground_at S L σ t)) (stepped (with_ground σ t (ground_at S L σ t))) full (Named S L σ)
      (λ space. learns t l space refl)
      (λ lack. (t, l, lack))

  named_set : (σ : State) (v : ℕ) (t : Part) → σ.part ≡ v ∷ t → stopped S L σ (v ∷ t) ≡ true → (o : Option ℕ) → Lowest σ t (S.versions (open_places S t)) o → Named S L σ (try_place S L σ t o)
  named_set σ v t e h (Some w) low =
      move v w t e h
      (record {
        counted = low.0;
        there = low.1;
        other = λ d. clash h (subst (λ x. stopped S L σ (x ∷ t) ≡ false) d low.2);
        free = low.2;
        lowest = λ x p q _. low.3 x p q;
      })
      refl
  named_set σ v t e h None all =
      named_learns σ t (no_other v t e h (λ x p q _. all x p q))

  named_open : (σ : State) → 0 < open_places S σ.part → stopped S L σ σ.part ≡ false → (o : Option ℕ) → Lowest σ σ.part (S.versions (open_places S σ.part)) o → Named S L σ (try_place S L σ σ.part o)
  named_open σ p f (Some w) low =
      set w p f (record { counted = low.0; there = low.1; other = λ d. d; free = low.2; lowest = λ x a b _. low.3 x a b }) refl
  named_open σ p f None all =
      named_learns σ σ.part (no_version p f (λ x a b _. all x a b))

  named_ground : (σ : State) (g : Ground) (s : Part) → σ.part ≡ s → first_ground S L σ s ≡ Some g → Named S L σ (after_ground S L σ g s)
  named_ground σ g [] e h = (e, h)
  named_ground σ g (v ∷ t) e h = named_set σ v t e (ap is_some h) (lowest_free S L σ t (S.versions (open_places S t))) (lowest_is σ t (S.versions (open_places S t)))

  named_by : (σ : State) (o : Option Ground) → first_ground S L σ σ.part ≡ o → Named S L σ (by_ground S L σ o)
  named_by σ (Some g) e = named_ground σ g σ.part refl e
  named_by σ None e =
      cond_both (eqb (open_places S σ.part) 0) (stepped (with_best S L σ)) (go_on S L σ σ.part) (Named S L σ)
      (λ z. found (eqb-true _ 0 z) (ap is_some e) refl)
      (λ z. named_open σ (more_than (open_places S σ.part) (eqb-false _ 0 z)) (ap is_some e) (lowest_free S L σ σ.part (S.versions (open_places S σ.part))) (lowest_is σ σ.part (S.versions (open_places S σ.part))))
    where
      more_than : (n : ℕ) → (n ≡ 0 → ⊥) → 0 < n
      more_than n h = omega arith

  pub next_named : (σ : State) → Named S L σ (next S L σ)
  unfolding next
  next_named σ = named_by σ (first_ground S L σ σ.part) refl
