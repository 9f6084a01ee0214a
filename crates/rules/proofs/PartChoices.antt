-- The list of all part-choices, each once. Assumes nothing.
use Rattle.std.proofs.Common.{◌≡◌, ℕ, zero, suc, ◌+◌, ◌*◌, ◌<◌, ◌≤◌, ◌⊎◌, List, [], ◌∷◌, ◌++◌, length, refl, ap, ◌∙◌, subst, inl, inr, arith, length-append}
use Rattle.std.specs.List.{AllByRecursion, AllPairs, Contains}
use Rattle.std.proofs.ByRecursion.{All-append, All-weaker}
use Rattle.std.proofs.lemmas.List.Elements.{All-from_recursion}
use Rattle.std.proofs.lemmas.List.Kept.{AllPairs-cons}
use Rattle.std.proofs.lemmas.Bool.{cases_lt}
use Rattle.rules.specs.Sheets.{order_of, AnyByRecursion}
use Rattle.rules.specs.Openings.{each_to}
use Rattle.rules.specs.Grounds.{Part, Proper, Setting, open_places}
use Rattle.rules.specs.Settings.{setting}
use Rattle.rules.specs.Theorems.{CountLaw}
use Rattle.rules.proofs.Potential.{parts}
use Rattle.rules.proofs.Counts.{counts_agree}
use Rattle.rules.proofs.ByPlace.{setting_versions}
use Rattle.rules.proofs.TestLists.{each_all}

-- a part-choice goes on from another, with more places set below it
abbrev EndsIn : Part → Part → Type 0
EndsIn t [] = t ≡ []
EndsIn t (v ∷ c) = (t ≡ v ∷ c) ⊎ EndsIn t c

ends_in_itself : (t : Part) → EndsIn t t
ends_in_itself [] = refl
ends_in_itself (v ∷ t) = inl refl

ends_longer : (t c : Part) → EndsIn t c → length t ≤ length c
ends_longer t [] h = omega (arith, ap length h)
ends_longer t (v ∷ c) (inl e) = omega (arith, ap length e)
ends_longer t (v ∷ c) (inr h) = omega (arith, ends_longer t c h)

ends_below : (x : ℕ) (t c : Part) → EndsIn (x ∷ t) c → EndsIn t c
ends_below x t [] h = absurd (cc)
ends_below x t (v ∷ c) (inl e) = let d : t ≡ c = cc in inr (subst (EndsIn t) d (ends_in_itself t))
ends_below x t (v ∷ c) (inr h) = inr (ends_below x t c h)

ends_same : (x y : ℕ) (t c : Part) → EndsIn (x ∷ t) c → EndsIn (y ∷ t) c → x ≡ y
ends_same x y t [] h k = absurd (cc)
ends_same x y t (v ∷ c) (inl e) (inl d) = cc
ends_same x y t (v ∷ c) (inl e) (inr k) = absurd (omega (arith, ap length e, ends_longer (y ∷ t) c k))
ends_same x y t (v ∷ c) (inr h) (inl d) = absurd (omega (arith, ap length d, ends_longer (x ∷ t) c h))
ends_same x y t (v ∷ c) (inr h) (inr k) = ends_same x y t c h k

-- no two of a list are the same
abbrev Apart : List Part → Type 0
Apart [] = Unit {0}
Apart (c ∷ cs) = AllByRecursion (λ d. c ≡ d → ⊥) cs × Apart cs

apart_append : (cs ds : List Part) → Apart cs → Apart ds → AllByRecursion (λ c. AllByRecursion (λ d. c ≡ d → ⊥) ds) cs → Apart (cs ++ ds)
apart_append [] ds h k a = k
apart_append (c ∷ cs) ds h k a = (All-append (λ d. c ≡ d → ⊥) cs ds h.0 a.0, apart_append cs ds h.1 k a.1)

apart_pairs : (cs : List Part) → Apart cs → AllPairs (λ c d. c ≡ d → ⊥) cs
apart_pairs [] h = λ i j d p q. absurd (omega arith)
apart_pairs (c ∷ cs) h = AllPairs-cons (λ c d. c ≡ d → ⊥) c cs (All-from_recursion (λ d. c ≡ d → ⊥) cs h.0) (apart_pairs cs h.1)

-- a part-choice is in a list
abbrev IsIn : Part → List Part → Type 0
IsIn c ds = AnyByRecursion (λ d. d ≡ c) ds

in_left : (c : Part) (cs ds : List Part) → IsIn c cs → IsIn c (cs ++ ds)
in_left c [] ds h = absurd h
in_left c (d ∷ cs) ds (inl e) = inl e
in_left c (d ∷ cs) ds (inr h) = inr (in_left c cs ds h)

in_right : (c : Part) (cs ds : List Part) → IsIn c ds → IsIn c (cs ++ ds)
in_right c [] ds h = h
in_right c (d ∷ cs) ds h = inr (in_right c cs ds h)

in_either : (c : Part) (cs ds : List Part) → IsIn c (cs ++ ds) → IsIn c cs ⊎ IsIn c ds
in_either c [] ds h = inr h
in_either c (d ∷ cs) ds (inl e) = inl (inl e)
in_either c (d ∷ cs) ds (inr h) = elim (in_either c cs ds h) [ inl k ↦ inl (inr k) | inr k ↦ inr k ]

in_contains : (c : Part) (cs : List Part) → IsIn c cs → Contains cs c
in_contains c [] h = absurd h
in_contains c (d ∷ cs) (inl e) = (0, omega arith, e)
in_contains c (d ∷ cs) (inr h) = let k = in_contains c cs h in (suc k.0, omega (arith, k.1), k.2)

in_some : (c : Part) (f : ℕ → List Part) (k : ℕ) → IsIn c (each_to f k) → (x : ℕ) × (1 ≤ x) × (x ≤ k) × IsIn c (f x)
in_some c f zero h = absurd h
in_some c f (suc k) h =
    elim (in_either c (each_to f k) (f (suc k)) h) [
      | inl i ↦ let r = in_some c f k i in (r.0, r.1, omega (arith, r.2), r.3)
      | inr i ↦ (suc k, omega arith, omega arith, i)
    ]

in_each : (c : Part) (f : ℕ → List Part) (k x : ℕ) → 1 ≤ x → x ≤ k → IsIn c (f x) → IsIn c (each_to f k)
in_each c f zero x p q h = absurd (omega arith)
in_each c f (suc k) x p q h =
    elim (cases_lt k x) [
      | inl l ↦ let e : x ≡ suc k = omega arith in in_right c (each_to f k) (f (suc k)) (subst (λ y. IsIn c (f y)) e h)
      | inr l ↦ in_left c (each_to f k) (f (suc k)) (in_each c f k x p l h)
    ]

length_each : (f : ℕ → List Part) (n : ℕ) → ((x : ℕ) → length (f x) ≡ n) → (k : ℕ) → length (each_to f k) ≡ k * n
length_each f n h zero = omega arith
length_each f n h (suc k) = omega (arith, length-append (each_to f k) (f (suc k)), length_each f n h k, h (suc k))

module _ (S : Setting) where
  -- the part-choices that go on from one with so many places open: itself, and those that go on from it with each version of the place set next
  abbrev going_on : ℕ → Part → List Part
  going_on zero t = t ∷ []
  going_on (suc u) t = t ∷ each_to (λ x. going_on u (x ∷ t)) (S.versions (suc u))

  as_counted : (u : ℕ) (t : Part) → length (going_on u t) ≡ parts S u
  as_counted zero t = refl
  as_counted (suc u) t =
      omega (arith, length_each (λ x. going_on u (x ∷ t)) (parts S u) (λ x. as_counted u (x ∷ t)) (S.versions (suc u)))

  all_proper : (u : ℕ) (t : Part) → u + length t ≡ S.places → Proper S t → AllByRecursion (Proper S) (going_on u t)
  all_proper zero t e h = (h, tt)
  all_proper (suc u) t e h =
      let o : suc u ≡ open_places S t = omega arith in
      (h, each_all (Proper S) (λ x. going_on u (x ∷ t)) (S.versions (suc u)) (λ x p q. all_proper u (x ∷ t) (omega arith) (omega arith, p, subst (λ n. x ≤ S.versions n) o q, h)))

  all_end : (u : ℕ) (t : Part) → AllByRecursion (EndsIn t) (going_on u t)
  all_end zero t = (ends_in_itself t, tt)
  all_end (suc u) t =
      (ends_in_itself t, each_all (EndsIn t) (λ x. going_on u (x ∷ t)) (S.versions (suc u)) (λ x p q. All-weaker (EndsIn (x ∷ t)) (EndsIn t) (ends_below x t) (going_on u (x ∷ t)) (all_end u (x ∷ t))))

  -- no two are the same of those that go on from a part-choice with each version there
  apart_to : (u : ℕ) (t : Part) → ((x : ℕ) → Apart (going_on u (x ∷ t))) → (k : ℕ) → Apart (each_to (λ x. going_on u (x ∷ t)) k)
  apart_to u t h zero = tt
  apart_to u t h (suc k) =
      let others : ℕ → List Part = λ x. going_on u (x ∷ t) in
      apart_append (each_to others k) (others (suc k)) (apart_to u t h k) (h (suc k))
      (each_all (λ c. AllByRecursion (λ d. c ≡ d → ⊥) (others (suc k))) others k (λ x p q.
      All-weaker (EndsIn (x ∷ t)) (λ c. AllByRecursion (λ d. c ≡ d → ⊥) (others (suc k))) (λ c a.
      All-weaker (EndsIn (suc k ∷ t)) (λ d. c ≡ d → ⊥) (λ d b e. let z : x ≡ suc k = ends_same x (suc k) t d (subst (EndsIn (x ∷ t)) e a) b in omega (arith, z, q)) (others (suc k)) (all_end u (suc k ∷ t)))
      (others x) (all_end u (x ∷ t))))

  all_apart : (u : ℕ) (t : Part) → Apart (going_on u t)
  all_apart zero t = (tt, tt)
  all_apart (suc u) t = (
    each_all (λ d. t ≡ d → ⊥) (λ x. going_on u (x ∷ t)) (S.versions (suc u)) (λ x p q. All-weaker (EndsIn (x ∷ t)) (λ d. t ≡ d → ⊥) (λ d h e. omega (arith, ends_longer (x ∷ t) d h, ap length e)) (going_on u (x ∷ t)) (all_end u (x ∷ t))),
    apart_to u t (λ x. all_apart u (x ∷ t)) (S.versions (suc u)),
  )

  -- with one that has a place open, those with a version there are in the list
  one_further : (u : ℕ) (r : Part) → u + length r ≡ S.places → (v : ℕ) (t : Part) → length t < S.places → 1 ≤ v → v ≤ S.versions (open_places S t) → IsIn t (going_on u r) → IsIn (v ∷ t) (going_on u r)
  one_further zero r e v t l p q (inl h) = absurd (omega (arith, ap length h))
  one_further zero r e v t l p q (inr h) = absurd h
  one_further (suc u) r e v t l p q (inl h) =
      let o : open_places S t ≡ suc u = omega (arith, ap length h) in
      inr (in_each (v ∷ t) (λ x. going_on u (x ∷ r)) (S.versions (suc u)) v p (subst (λ n. v ≤ S.versions n) o q) (itself u (v ∷ r) (v ∷ t) (ap (λ x. v ∷ x) h)))
    where
      itself : (u : ℕ) (r c : Part) → r ≡ c → IsIn c (going_on u r)
      itself zero r c e = inl e
      itself (suc u) r c e = inl e
  one_further (suc u) r e v t l p q (inr h) =
      let i = in_some t (λ x. going_on u (x ∷ r)) (S.versions (suc u)) h in
      inr (in_each (v ∷ t) (λ x. going_on u (x ∷ r)) (S.versions (suc u)) i.0 i.1 i.2 (one_further u (i.0 ∷ r) (omega arith) v t l p q i.3))

  none_set : (u : ℕ) → IsIn [] (going_on u [])
  none_set zero = inl refl
  none_set (suc u) = inl refl

  all_in : (c : Part) → Proper S c → IsIn c (going_on S.places [])
  all_in [] h = none_set S.places
  all_in (v ∷ t) h = one_further S.places [] (omega arith) v t h.0 h.1 h.2 (all_in t h.3)

pub count_law : CountLaw
count_law m w s f =
    let S : Setting = setting m s in (
      going_on S S.places [],
      record {
        proper = all_proper S S.places [] (omega arith) tt;
        each = λ c h. in_contains c (going_on S S.places []) (all_in S c h);
        once = apart_pairs (going_on S S.places []) (all_apart S S.places []);
        counted = as_counted S S.places [] ∙ counts_agree m S (order_of s) f.order.0 (setting_versions m w s f);
      },
    )
