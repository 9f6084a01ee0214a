-- What every step of a search keeps. Assumes nothing.
use Rattle.std.proofs.Common.{◌≡◌, ℕ, zero, suc, ◌+◌, ◌<◌, ◌≤◌, Bool, true, false, eqb, ltb, leb, List, [], ◌∷◌, ◌++◌, length, replicate, ℤ, pos, ◌-ℤ◌, Some, None, Option, sym, refl, ap, ◌∙◌, subst, inl, inr, append_assoc, arith, length-append}
use lib.Signed.{lt_z}
use lib.ListN.{length-replicate}
use Rattle.std.specs.List.{AllByRecursion}
use Rattle.std.proofs.ByRecursion.{All-append}
use Rattle.std.proofs.lemmas.Int.{ints}
use Rattle.std.proofs.lemmas.Bool.{cond-false, and_parts, and_from, le-leb, leb-true, cases_lt, cases_eq, ne_eqb, ltb-true}
use Rattle.rules.specs.Bounds.{most_grounds, most_lines}
use Rattle.rules.specs.Sheets.{Limits}
use Rattle.rules.specs.Choices.{capped}
use Rattle.rules.specs.Grounds.{Ground, Learnable, Part, Proper, Setting, SoundSetting, blocked, ledger, of_row, open_places, part_price, part_total, stands, starting}
use Rattle.rules.specs.Search.{Learns, Runs, State, Step, found, ground_at, in_force, learns, line_count, more, move, no_other, no_version, none, room, set, start, stopped, with_best, with_ground}
use Rattle.rules.proofs.ByPosition.{Complete, PartKeeps}
use Rattle.rules.proofs.Bools.{split, clash}
use Rattle.rules.proofs.Firsts.{every_version, blocked_left, blocked_right, blocked_here, blocked_tighter, Tighter}
use Rattle.rules.proofs.Learning.{ledger_learnable, learn_learnable, learn_stands}

-- with each version lower than one that is set, a ground stands
abbrev pub Passed : (Part → Bool) → Part → Type 0
Passed b [] = Unit {0}
Passed b (v ∷ t) = ((x : ℕ) → 1 ≤ x → x < v → b (x ∷ t) ≡ true) × Passed b t

passed_more : (b d : Part → Bool) → ((s : Part) → b s ≡ true → d s ≡ true) → (s : Part) → Passed b s → Passed d s
passed_more b d m [] h = tt
passed_more b d m (v ∷ t) h = (λ x p q. m (x ∷ t) (h.0 x p q), passed_more b d m t h.1)

passed_none : (b : Part → Bool) (n : ℕ) → Passed b (replicate n 1)
passed_none b zero = tt
passed_none b (suc n) = (λ x p q. absurd (omega arith), passed_none b n)

-- the learned grounds have their space in the ledger
abbrev pub Space : List Ground → Type 0
Space learned = (length learned ≤ most_grounds) × (line_count learned ≤ most_lines)

pub line_count_push : (gs : List Ground) (g : Ground) → line_count (gs ++ (g ∷ [])) ≡ line_count gs + length g
line_count_push [] g = omega arith
line_count_push (h ∷ gs) g = omega (arith, line_count_push gs g)

space_push : (gs : List Ground) (g : Ground) → room gs g ≡ true → Space (gs ++ (g ∷ []))
space_push gs g h =
    let parts = and_parts (ltb (length gs) 512) _ h in
    let a : length gs < 512 = ltb-true _ _ parts.0 in
    let b : line_count gs + length g ≤ 2048 = leb-true _ _ parts.1 in
    (omega (arith, length-append gs (g ∷ [])), omega (arith, line_count_push gs g))

module _ (S : Setting) where
  pub proper_length : (s : Part) → Proper S s → length s ≤ S.places
  proper_length [] h = omega arith
  proper_length (v ∷ t) h = h.0

  ones_proper : SoundSetting S → (n : ℕ) → n ≤ S.places → Proper S (replicate n 1)
  ones_proper W zero h = tt
  ones_proper W (suc n) h =
      let e : length (replicate {A = ℕ} n 1) ≡ n = length-replicate n 1 in
      (omega arith, omega arith, W.some_version (open_places S (replicate n 1)) (omega arith) (omega arith), ones_proper W n (omega arith))

  -- the best choice so far, and the cap that goes with it
  abbrev pub BestSoFar : Limits → Option Part → ℤ → Type 0
  BestSoFar L None cap = cap ≡ L 0
  BestSoFar L (Some c) cap = (Complete S c) × (PartKeeps S L c) × (cap ≡ part_price S c -ℤ pos 1)

  -- a row's starting ground is in the ledger
  starting_blocks : (M : Limits) (s : Part) (r n : ℕ) → r ≤ n → stands S M s (of_row S r) ≡ true → blocked S M (starting S n) s ≡ true
  starting_blocks M s r zero h st =
      let e : r ≡ 0 = omega arith in
      blocked_here S M s (of_row S 0) [] (subst (λ x. stands S M s (of_row S x) ≡ true) e st)
  starting_blocks M s r (suc n) h st =
      elim (cases_lt n r) [
        | inl p ↦
            let e : r ≡ suc n = omega arith in
            blocked_right S M s (starting S n) _ (blocked_here S M s (of_row S (suc n)) [] (subst (λ x. stands S M s (of_row S x) ≡ true) e st))
        | inr p ↦ blocked_left S M s (starting S n) _ (starting_blocks M s r n p st)
      ]

  module _ (W : SoundSetting S) (L : Limits) where
    pub record Invariant (σ : State) : Type 0 where
      pub proper : Proper S σ.part
      pub learnable : AllByRecursion (Learnable S) σ.learned
      pub passed : Passed (stopped S L σ) σ.part
      pub best : BestSoFar L σ.best σ.cap
      pub space : Space σ.learned

    pub start_invariant : (learned : List Ground) → AllByRecursion (Learnable S) learned → Space learned → Invariant (start S L learned)
    start_invariant learned h sp =
        record {
          proper = ones_proper W S.places (omega arith);
          learnable = h;
          passed = passed_none (stopped S L (start S L learned)) S.places;
          best = refl;
          space = sp;
        }

    -- in the row of the price the greater is worse
    pub price_worse : (x y : ℤ) → (S.joining 0).worse x y ≡ lt_z y x
    price_worse x y = ap (λ J. J.worse x y) W.price_adds

    -- at a choice where no ground stands no limit in force is broken
    pub free_keeps : (σ : State) → open_places S σ.part ≡ 0 → stopped S L σ σ.part ≡ false → PartKeeps S (in_force S L σ) σ.part
    free_keeps σ full free row h =
        split ((S.joining row).worse (part_total S row σ.part) (in_force S L σ row))
        (λ e. clash
        (blocked_left S (in_force S L σ) σ.part (starting S S.last_row) σ.learned
        (starting_blocks (in_force S L σ) σ.part row S.last_row h
        (and_from _ _ (and_from (leb (open_places S σ.part) 0) _ (le-leb _ _ (omega arith)) e) refl)))
        free)
        (λ e. e)

    -- the cap in force is never above the job's
    cap_below : (best : Option Part) (cap x : ℤ) → BestSoFar L best cap → (S.joining 0).worse x cap ≡ false → (S.joining 0).worse x (L 0) ≡ false
    cap_below None cap x h k = subst (λ z. (S.joining 0).worse x z ≡ false) h k
    cap_below (Some c) cap x h k =
        let k₁ : lt_z cap x ≡ false = sym (price_worse x cap) ∙ k in
        let k₂ : lt_z (L 0) (part_price S c) ≡ false = sym (price_worse (part_price S c) (L 0)) ∙ h.1 0 (omega arith) in
        let e = h.2 in
        price_worse x (L 0) ∙ below (L 0) cap x (part_price S c) e k₁ k₂
      where
        below : (l cap x p : ℤ) → cap ≡ p -ℤ pos 1 → lt_z cap x ≡ false → lt_z l p ≡ false → lt_z l x ≡ false
        below l cap x p e h k = grind (arith, ints)

    -- a limit of a row other than the price is the job's
    not_capped : (cap : ℤ) (row : ℕ) → (row ≡ 0 → ⊥) → capped L cap row ≡ L row
    not_capped cap row d = cond-false (eqb row 0) cap (L row) (ne_eqb row 0 d)

    pub found_keeps : (σ : State) → Invariant σ → open_places S σ.part ≡ 0 → stopped S L σ σ.part ≡ false → PartKeeps S L σ.part
    found_keeps σ i full free row h =
        elim (cases_eq row 0) [
          | inl e ↦ subst (λ r. (S.joining r).worse (part_total S r σ.part) (L r) ≡ false) (sym e)
              (cap_below σ.best σ.cap (part_total S 0 σ.part) i.best (free_keeps σ full free 0 (omega arith)))
          | inr d ↦ subst (λ z. (S.joining row).worse (part_total S row σ.part) z ≡ false) (not_capped σ.cap row d) (free_keeps σ full free row h)
        ]

    -- the cap falls when a choice is found
    pub found_tighter : (σ : State) → open_places S σ.part ≡ 0 → stopped S L σ σ.part ≡ false → Tighter S (in_force S L σ) (in_force S L (with_best S L σ))
    found_tighter σ full free row x h =
        elim (cases_eq row 0) [
          | inl e ↦
              let k : (S.joining 0).worse x σ.cap ≡ true = subst (λ r. (S.joining r).worse x (in_force S L σ r) ≡ true) e h in
              let free₀ : lt_z σ.cap (part_price S σ.part) ≡ false = sym (price_worse (part_price S σ.part) σ.cap) ∙ free_keeps σ full free 0 (omega arith) in
              let k₀ : lt_z σ.cap x ≡ true = sym (price_worse x σ.cap) ∙ k in
              subst (λ r. (S.joining r).worse x (in_force S L (with_best S L σ) r) ≡ true) (sym e)
              (price_worse x (part_price S σ.part -ℤ pos 1) ∙ above σ.cap x (part_price S σ.part) free₀ k₀)
          | inr d ↦
              subst (λ z. (S.joining row).worse x z ≡ true) (not_capped σ.cap row d ∙ sym (not_capped (part_price S σ.part -ℤ pos 1) row d)) h
        ]
      where
        above : (cap x p : ℤ) → lt_z cap p ≡ false → lt_z cap x ≡ true → lt_z (p -ℤ pos 1) x ≡ true
        above cap x p h k = grind (arith, ints)

    -- the part-choice is then ruled out by the new cap
    pub found_stops : (σ : State) → open_places S σ.part ≡ 0 → stopped S L (with_best S L σ) σ.part ≡ true
    found_stops σ full =
        let M : Limits = in_force S L (with_best S L σ) in
        let w : (S.joining 0).worse (part_price S σ.part) (part_price S σ.part -ℤ pos 1) ≡ true = price_worse (part_price S σ.part) (part_price S σ.part -ℤ pos 1) ∙ less (part_price S σ.part) in
        blocked_left S M σ.part (starting S S.last_row) σ.learned
        (starting_blocks M σ.part 0 S.last_row (omega arith)
        (and_from _ _ (and_from (leb (open_places S σ.part) 0) _ (le-leb _ _ (omega arith)) w) refl))
      where
        less : (p : ℤ) → lt_z (p -ℤ pos 1) p ≡ true
        less p = grind (arith, ints)

    -- one ground more in the ledger keeps what stands
    pub grown : (σ : State) (t : Part) (g : Ground) (s : Part) → stopped S L σ s ≡ true → stopped S L (with_ground σ t g) s ≡ true
    grown σ t g s h =
        subst (λ gs. blocked S (in_force S L σ) gs s ≡ true) (append_assoc (starting S S.last_row) σ.learned (g ∷ []))
        (blocked_left S (in_force S L σ) s (ledger S σ.learned) (g ∷ []) h)

    -- and what is learned at a part-choice stands there
    pub learned_stops : (σ : State) (t : Part) → AllByRecursion (Learnable S) σ.learned → length t < S.places → ((x : ℕ) → 1 ≤ x → x ≤ S.versions (open_places S t) → stopped S L σ (x ∷ t) ≡ true) → stopped S L (with_ground σ t (ground_at S L σ t)) t ≡ true
    learned_stops σ t h small all =
        let g : Ground = ground_at S L σ t in
        subst (λ gs. blocked S (in_force S L σ) gs t ≡ true) (append_assoc (starting S S.last_row) σ.learned (g ∷ []))
        (blocked_right S (in_force S L σ) t (ledger S σ.learned) (g ∷ [])
        (blocked_here S (in_force S L σ) t g [] (learn_stands S W (in_force S L σ) (ledger S σ.learned) (ledger_learnable S σ.learned h) t small all)))

    -- the ground learned where no version is free
    one_more_learnable : (σ : State) (t : Part) → Invariant σ → length t < S.places → ((x : ℕ) → 1 ≤ x → x ≤ S.versions (open_places S t) → stopped S L σ (x ∷ t) ≡ true) → AllByRecursion (Learnable S) (σ.learned ++ (ground_at S L σ t ∷ []))
    one_more_learnable σ t i small all =
        All-append (Learnable S) σ.learned _ i.learnable
        (learn_learnable S W (in_force S L σ) (ledger S σ.learned) (ledger_learnable S σ.learned i.learnable) t small all, tt)

    -- what is known of the part-choice after which a ground is learned
    pub record WhereLearned (σ : State) (t : Part) : Type 0 where
      pub small : length t < S.places
      pub proper : Proper S t
      pub passed : Passed (stopped S L σ) t
      pub all : (x : ℕ) → 1 ≤ x → x ≤ S.versions (open_places S t) → stopped S L σ (x ∷ t) ≡ true

    pub where_learned : (σ : State) → Invariant σ → (t : Part) → Learns S L σ t → WhereLearned σ t
    where_learned σ i t (no_other v _ e h all) =
        let pr : Proper S (v ∷ t) = subst (Proper S) e i.proper in
        let pa : Passed (stopped S L σ) (v ∷ t) = subst (Passed (stopped S L σ)) e i.passed in
        record { small = pr.0; proper = pr.3; passed = pa.1; all = λ x p q. every_version S L σ v t h x (all x p q) }
    where_learned σ i t (no_version some free all) =
        record { small = omega arith; proper = i.proper; passed = i.passed; all = λ x p q. all x p q (λ z. z) }

    pub step_invariant : (σ τ : State) → Invariant σ → Step S L σ τ → Invariant τ
    step_invariant σ τ i (move v w t e h low d) =
        let pr : Proper S (v ∷ t) = subst (Proper S) e i.proper in
        let pa : Passed (stopped S L σ) (v ∷ t) = subst (Passed (stopped S L σ)) e i.passed in
        subst Invariant (sym d) (record {
          proper = (pr.0, low.counted, low.there, pr.3);
          learnable = i.learnable;
          passed = (λ x p q. every_version S L σ v t h x (low.lowest x p q), pa.1);
          best = i.best;
          space = i.space;
        })
    step_invariant σ τ i (found full free d) =
        subst Invariant (sym d) (record {
          proper = i.proper;
          learnable = i.learnable;
          passed = passed_more (stopped S L σ) (stopped S L (with_best S L σ)) (λ s. blocked_tighter S (in_force S L σ) (in_force S L (with_best S L σ)) s (found_tighter σ full free) (ledger S σ.learned)) σ.part i.passed;
          best = ((omega (arith, proper_length σ.part i.proper), i.proper), found_keeps σ i full free, refl);
          space = i.space;
        })
    step_invariant σ τ i (set w some free low d) =
        subst Invariant (sym d) (record {
          proper = (omega arith, low.counted, low.there, i.proper);
          learnable = i.learnable;
          passed = (λ x p q. low.lowest x p q (λ z. z), i.passed);
          best = i.best;
          space = i.space;
        })
    step_invariant σ τ i (learns t l space d) =
        let w = where_learned σ i t l in
        let g : Ground = ground_at S L σ t in
        subst Invariant (sym d) (record {
          proper = w.proper;
          learnable = one_more_learnable σ t i w.small w.all;
          passed = passed_more (stopped S L σ) (stopped S L (with_ground σ t g)) (grown σ t g) t w.passed;
          best = i.best;
          space = space_push σ.learned g space;
        })

    pub runs_invariant : {k : ℕ} {σ τ : State} → Invariant σ → Runs S L k σ τ → Invariant τ
    runs_invariant i none = i
    runs_invariant i (more {σ = σ} {τ = τ} s r) = runs_invariant (step_invariant σ τ i s) r
