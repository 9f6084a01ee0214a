-- A learned ground, told by its lines. Assumes nothing.
use Rattle.std.proofs.Common.{◌≡◌, ℕ, zero, suc, ◌≤◌, true, false, eqb, List, [], ◌∷◌, map, sym, refl, ap, ◌∙◌, subst, inl, inr, arith}
use Rattle.std.specs.List.{AllByRecursion}
use Rattle.std.proofs.lemmas.Bool.{cond_both, and_parts, eqb-true, cases_lt}
use Rattle.rules.specs.declared.lines.Line.{Line}
use Rattle.rules.specs.Sheets.{AnyByRecursion}
use Rattle.rules.specs.Grounds.{Ground, Part, Setting, SoundSetting, before, kept, learn_from, learned_up_to, moved, open_places, same_place, with_line, with_lines}
use Rattle.rules.specs.Theorems.{LearningLaw, Replaces}
use Rattle.rules.proofs.Bools.{split, clash}
use Rattle.rules.proofs.Joined.{still_worse}
use Rattle.rules.proofs.StandingLines.{Known, with_lines_all}
use Rattle.rules.proofs.Shapes.{up_to_ordered}

any_weaker : {A : Type 0} (P Q : A → Type 0) → ((x : A) → P x → Q x) → (xs : List A) → AnyByRecursion P xs → AnyByRecursion Q xs
any_weaker P Q f [] h = h
any_weaker P Q f (x ∷ xs) (inl h) = inl (f x h)
any_weaker P Q f (x ∷ xs) (inr h) = inr (any_weaker P Q f xs h)

-- each element is in the list
all_in : {A : Type 0} (P : A → Type 0) (xs : List A) → ((x : A) → AnyByRecursion (λ y. x ≡ y) xs → P x) → AllByRecursion P xs
all_in P [] h = tt
all_in P (x ∷ xs) h = (h x (inl refl), all_in P xs (λ y k. h y (inr k)))

all_map : {A B : Type 0} (f : A → B) (P : B → Type 0) (xs : List A) → AllByRecursion (λ x. P (f x)) xs → AllByRecursion P (map f xs)
all_map f P [] h = tt
all_map f P (x ∷ xs) h = (h.0, all_map f P xs h.1)

all_unmap : {A B : Type 0} (f : A → B) (P : B → Type 0) (xs : List A) → AllByRecursion P (map f xs) → AllByRecursion (λ x. P (f x)) xs
all_unmap f P [] h = tt
all_unmap f P (x ∷ xs) h = (h.0, all_unmap f P xs h.1)

module _ (S : Setting) (W : SoundSetting S) where
  replaces_itself : (a : Line) → Known S a → Replaces S a a
  replaces_itself a h = (refl, refl, (W.laws a.row h).irreflexive a.constant)

  -- what is kept of two lines at one place replaces both
  kept_first : (a b : Line) → Known S a → same_place a b ≡ true → Replaces S (kept S a b) a
  kept_first a b h e =
      cond_both ((S.joining a.row).worse a.constant b.constant) b a (λ x. Replaces S x a)
      (λ w.
      let r : b.row ≡ a.row = sym (eqb-true a.row b.row (and_parts _ _ e).0) in
      let q : b.level ≡ a.level = sym (eqb-true a.level b.level (and_parts (eqb a.row b.row) _ e).1) in
      let back : (S.joining a.row).worse b.constant a.constant ≡ false = split ((S.joining a.row).worse b.constant a.constant) (λ z. clash ((W.laws a.row h).transitive a.constant b.constant a.constant w z) ((W.laws a.row h).irreflexive a.constant)) (λ z. z) in
      (r, q, subst (λ x. (S.joining x).worse b.constant a.constant ≡ false) (sym r) back))
      (λ w. replaces_itself a h)

  kept_second : (a b k : Line) → Known S a → same_place a b ≡ true → Replaces S b k → Replaces S (kept S a b) k
  kept_second a b k h e m =
      cond_both ((S.joining a.row).worse a.constant b.constant) b a (λ x. Replaces S x k)
      (λ w. m)
      (λ w.
      let r : a.row ≡ b.row = eqb-true a.row b.row (and_parts _ _ e).0 in
      let q : a.level ≡ b.level = eqb-true a.level b.level (and_parts (eqb a.row b.row) _ e).1 in
      let bk : (S.joining a.row).worse b.constant k.constant ≡ false = subst (λ x. (S.joining x).worse b.constant k.constant ≡ false) (sym r) m.2 in
      let ak : (S.joining a.row).worse a.constant k.constant ≡ false = split ((S.joining a.row).worse a.constant k.constant) (λ z. clash (still_worse S a.row (W.laws a.row h) b.constant a.constant k.constant w z) bk) (λ z. z) in
      (r ∙ m.0, q ∙ m.1, ak))

  abbrev Covered : Ground → Line → Type 0
  Covered g k = AnyByRecursion (λ l. Replaces S l k) g

  covered_new : (a : Line) (g : Ground) → Known S a → Covered (with_line S a g) a
  covered_new a [] h = inl (replaces_itself a h)
  covered_new a (b ∷ g) h =
      cond_both (before a b) (a ∷ b ∷ g) _ (λ x. Covered x a)
      (λ e. inl (replaces_itself a h))
      (λ e. cond_both (same_place a b) (kept S a b ∷ g) _ (λ x. Covered x a)
      (λ d. inl (kept_first a b h d))
      (λ d. inr (covered_new a g h)))

  covered_still : (a k : Line) (g : Ground) → Known S a → Covered g k → Covered (with_line S a g) k
  covered_still a k [] h m = absurd m
  covered_still a k (b ∷ g) h m =
      cond_both (before a b) (a ∷ b ∷ g) _ (λ x. Covered x k)
      (λ e. inr m)
      (λ e. cond_both (same_place a b) (kept S a b ∷ g) _ (λ x. Covered x k)
      (λ d. elim m [ inl z ↦ inl (kept_second a b k h d z) | inr z ↦ inr z ])
      (λ d. elim m [ inl z ↦ inl z | inr z ↦ inr (covered_still a k g h z) ]))

  lines_still : (ls : List Line) (k : Line) (g : Ground) → AllByRecursion (Known S) ls → Covered g k → Covered (with_lines S ls g) k
  lines_still [] k g h m = m
  lines_still (a ∷ ls) k g h m = lines_still ls k (with_line S a g) h.1 (covered_still a k g h.0 m)

  lines_new : (ls : List Line) (g : Ground) → AllByRecursion (Known S) ls → AllByRecursion (Covered (with_lines S ls g)) ls
  lines_new [] g h = tt
  lines_new (a ∷ ls) g h = (lines_still ls a (with_line S a g) h.1 (covered_new a g h.0), lines_new ls (with_line S a g) h.1)

  module _ (t : Part) (pick : ℕ → Ground) where
    moved_known : (v : ℕ) (ls : List Line) → AllByRecursion (Known S) ls → AllByRecursion (Known S) (map (moved S t v) ls)
    moved_known v [] h = tt
    moved_known v (l ∷ ls) h = (cond_both (eqb (suc l.level) (open_places S t)) _ l (Known S) (λ _. h.0) (λ _. h.0), moved_known v ls h.1)

    abbrev From : ℕ → Line → Type 0
    From n l = (v : ℕ) × (1 ≤ v) × (v ≤ n) × AnyByRecursion (λ k. l ≡ moved S t v k) (pick v)

    up_to_from : (n k : ℕ) → k ≤ n → AllByRecursion (From n) (learned_up_to S t pick k)
    up_to_from n zero h = tt
    up_to_from n (suc k) h =
        with_lines_all S (From n) (map (moved S t (suc k)) (pick (suc k))) (learned_up_to S t pick k)
        (all_map (moved S t (suc k)) (From n) (pick (suc k))
        (all_in (λ x. From n (moved S t (suc k) x)) (pick (suc k))
        (λ x m. (suc k, omega arith, h, any_weaker (λ y. x ≡ y) (λ y. moved S t (suc k) x ≡ moved S t (suc k) y) (λ y e. ap (moved S t (suc k)) e) (pick (suc k)) m))))
        (up_to_from n k (omega arith))

    up_to_replaced : (k : ℕ) → ((v : ℕ) → 1 ≤ v → v ≤ k → AllByRecursion (Known S) (pick v)) → (v : ℕ) → 1 ≤ v → v ≤ k → AllByRecursion (Covered (learned_up_to S t pick k)) (map (moved S t v) (pick v))
    up_to_replaced zero known v a b = absurd (omega arith)
    up_to_replaced (suc k) known v a b =
        let ls : List Line = map (moved S t (suc k)) (pick (suc k)) in
        let here : AllByRecursion (Known S) ls = moved_known (suc k) (pick (suc k)) (known (suc k) (omega arith) (omega arith)) in
        elim (cases_lt k v) [
          | inl p ↦
              let e : suc k ≡ v = omega arith in
              subst (λ x. AllByRecursion (Covered (learned_up_to S t pick (suc k))) (map (moved S t x) (pick x))) e (lines_new ls (learned_up_to S t pick k) here)
          | inr p ↦
              all_more (Covered (learned_up_to S t pick k)) (Covered (learned_up_to S t pick (suc k))) (λ l. lines_still ls l (learned_up_to S t pick k) here) (map (moved S t v) (pick v)) (up_to_replaced k (λ x i j. known x i (omega arith)) v a p)
        ]
      where
        all_more : (P Q : Line → Type 0) → ((l : Line) → P l → Q l) → (xs : List Line) → AllByRecursion P xs → AllByRecursion Q xs
        all_more P Q f [] h = tt
        all_more P Q f (x ∷ xs) h = (f x h.0, all_more P Q f xs h.1)

pub learning_law : LearningLaw
unfolding learn_from
learning_law S W t pick known =
    record {
      ordered = up_to_ordered S t pick (S.versions (open_places S t));
      taken_over = up_to_from S W t pick (S.versions (open_places S t)) (S.versions (open_places S t)) (omega arith);
      replaced = λ v a b. all_unmap (moved S t v) (λ k. AnyByRecursion (λ l. Replaces S l k) (learned_up_to S t pick (S.versions (open_places S t)))) (pick v) (up_to_replaced S W t pick (S.versions (open_places S t)) known v a b);
    }
