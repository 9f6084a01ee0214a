-- What a constant comes to when it is joined with the amounts above a level. Assumes nothing.
use Rattle.std.proofs.Common.{◌≡◌, ℕ, suc, ◌<◌, ◌≤◌, true, false, not, ltb, [], ◌∷◌, length, ℤ, sym, refl, ap, ◌∙◌, subst, inl, inr, arith}
use lib.IntN.{ℤ_discrete}
use Rattle.std.proofs.lemmas.Bool.{lt-ltb, le-ltb, cases_lt, cond-true, cond-false}
use Rattle.rules.specs.Joinings.{Laws}
use Rattle.rules.specs.Grounds.{Part, Proper, Setting, joined_above, open_places}
use Rattle.rules.proofs.Bools.{split, clash}

module _ (S : Setting) where
  -- one version more, above the level or not
  pub joined_on : (row level : ℕ) (k : ℤ) (v : ℕ) (t : Part) → level < open_places S t → joined_above S row level k (v ∷ t) ≡ (S.joining row).join (joined_above S row level k t) (S.amount row (open_places S t) v)
  joined_on row level k v t h = cond-true (ltb level (open_places S t)) _ _ (lt-ltb level (open_places S t) h)

  pub joined_off : (row level : ℕ) (k : ℤ) (v : ℕ) (t : Part) → open_places S t ≤ level → joined_above S row level k (v ∷ t) ≡ joined_above S row level k t
  joined_off row level k v t h = cond-false (ltb level (open_places S t)) _ _ (le-ltb level (open_places S t) h)

  -- what a part-choice has above one level, where it has nothing between that and another
  pub joined_same : (row a b : ℕ) (k : ℤ) (t : Part) → length t ≤ S.places → a ≤ open_places S t → b ≤ open_places S t → joined_above S row a k t ≡ joined_above S row b k t
  joined_same row a b k [] h p q = refl
  joined_same row a b k (v ∷ t) h p q =
      joined_on row a k v t (omega arith)
      ∙ ap (λ x. (S.joining row).join x (S.amount row (open_places S t) v)) (joined_same row a b k t (omega arith) (omega arith) (omega arith))
      ∙ sym (joined_on row b k v t (omega arith))

  -- all of a choice's positions are at most the number of places
  pub joined_none : (row level : ℕ) (k : ℤ) (t : Part) → S.places ≤ level → joined_above S row level k t ≡ k
  joined_none row level k [] h = refl
  joined_none row level k (v ∷ t) h = joined_off row level k v t (omega arith) ∙ joined_none row level k t h

  module _ (row : ℕ) (laws : Laws (S.joining row)) where
    swap_last : (a b c : ℤ) → (S.joining row).join ((S.joining row).join a b) c ≡ (S.joining row).join ((S.joining row).join a c) b
    swap_last a b c =
        laws.assoc a b c ∙ ap ((S.joining row).join a) (laws.comm b c) ∙ sym (laws.assoc a c b)

    -- an amount joined to the constant may as well be joined at the end
    pub joined_out : (level : ℕ) (k a : ℤ) (t : Part) → joined_above S row level ((S.joining row).join k a) t ≡ (S.joining row).join (joined_above S row level k t) a
    joined_out level k a [] = refl
    joined_out level k a (v ∷ t) =
        elim (cases_lt level (open_places S t)) [
          | inl h ↦ joined_on row level ((S.joining row).join k a) v t h
              ∙ ap (λ x. (S.joining row).join x (S.amount row (open_places S t) v)) (joined_out level k a t)
              ∙ swap_last (joined_above S row level k t) a (S.amount row (open_places S t) v)
              ∙ ap (λ x. (S.joining row).join x a) (sym (joined_on row level k v t h))
          | inr h ↦ joined_off row level ((S.joining row).join k a) v t h
              ∙ joined_out level k a t
              ∙ ap (λ x. (S.joining row).join x a) (sym (joined_off row level k v t h))
        ]

    -- a constant that isn't worse leaves what isn't worse
    pub joined_monotone : (level : ℕ) (a b : ℤ) (t : Part) → (S.joining row).worse a b ≡ false → (S.joining row).worse (joined_above S row level a t) (joined_above S row level b t) ≡ false
    joined_monotone level a b [] h = h
    joined_monotone level a b (v ∷ t) h =
        elim (cases_lt level (open_places S t)) [
          | inl p ↦ rw (joined_on row level a v t p, joined_on row level b v t p) (laws.monotone _ _ _ (joined_monotone level a b t h))
          | inr p ↦ rw (joined_off row level a v t p, joined_off row level b v t p) (joined_monotone level a b t h)
        ]

    -- what isn't worse than a limit's breaker breaks it too, the other way round
    pub still_worse : (x y limit : ℤ) → (S.joining row).worse y x ≡ false → (S.joining row).worse y limit ≡ true → (S.joining row).worse x limit ≡ true
    still_worse x y limit h k =
        elim (ℤ_discrete y x) [
          | yes e ↦ subst (λ z. (S.joining row).worse z limit ≡ true) e k
          | no d ↦ split ((S.joining row).worse x y) (λ w. laws.transitive x y limit w k) (λ w. clash (laws.exactly_one y x d ∙ ap not w) h)
        ]

    -- the version at a position may as well be joined to the constant
    pub joined_head : (p : ℕ) (k : ℤ) (v : ℕ) (c : Part) → length c ≤ S.places → open_places S c ≡ suc p → joined_above S row p k (v ∷ c) ≡ joined_above S row (suc p) ((S.joining row).join k (S.amount row (suc p) v)) (v ∷ c)
    joined_head p k v c l e =
        joined_on row p k v c (omega arith)
        ∙ ap (λ x. (S.joining row).join x (S.amount row (open_places S c) v)) (joined_same row p (suc p) k c l (omega arith) (omega arith))
        ∙ ap (λ q. (S.joining row).join (joined_above S row (suc p) k c) (S.amount row q v)) e
        ∙ sym (joined_off row (suc p) ((S.joining row).join k (S.amount row (suc p) v)) v c (omega arith) ∙ joined_out (suc p) k (S.amount row (suc p) v) c)

  -- At each position that is not open there is a version, and a constant one level lower comes to what it comes to with that version's amount joined.
  pub record HasVersion (p : ℕ) (c : Part) : Type 0 where
    pub version : ℕ
    pub counted : 1 ≤ version
    pub there : version ≤ S.versions (suc p)
    pub joined : (row : ℕ) (laws : Laws (S.joining row)) (k : ℤ) → joined_above S row p k c ≡ joined_above S row (suc p) ((S.joining row).join k (S.amount row (suc p) version)) c

  pub has_version : (p : ℕ) (c : Part) → suc p ≤ S.places → Proper S c → open_places S c ≤ p → HasVersion p c
  has_version p [] h l q = absurd (omega arith)
  has_version p (v ∷ c) h l q =
      elim (cases_lt p (open_places S c)) [
        | inl w ↦
            let e : open_places S c ≡ suc p = omega arith in
            record {
              version = v;
              counted = l.1;
              there = subst (λ x. v ≤ S.versions x) e l.2;
              joined = λ row laws k. joined_head row laws p k v c (omega arith) e;
            }
        | inr w ↦
            let r = has_version p c h l.3 w in
            record {
              version = r.version;
              counted = r.counted;
              there = r.there;
              joined = λ row laws k. joined_off row p k v c w ∙ r.joined row laws k ∙ sym (joined_off row (suc p) _ v c (omega arith));
            }
      ]
