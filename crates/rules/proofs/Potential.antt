-- A number that falls with every step, so that a search makes fewer steps than twice the number of part-choices. Assumes nothing.
use Rattle.std.proofs.Common.{◌≡◌, ℕ, zero, suc, ◌+◌, ◌-◌, ◌*◌, ◌<◌, ◌≤◌, Bool, true, false, cond, List, [], ◌∷◌, length, replicate, sym, ap, ◌∙◌, subst, inl, inr, mul-le-mul_right, suc-mul, mul_left_comm, arith}
use lib.ListN.{length-replicate}
use Rattle.std.specs.List.{AllByRecursion}
use Rattle.std.proofs.lemmas.Bool.{cond-true, cond-false, cases_lt}
use Rattle.rules.specs.Sheets.{Limits}
use Rattle.rules.specs.Grounds.{Ground, Learnable, Part, Setting, SoundSetting, open_places}
use Rattle.rules.specs.Search.{Learns, Runs, State, Step, found, learns, more, move, no_other, no_version, none, set, start, stopped}
use Rattle.rules.proofs.Bools.{clash}
use Rattle.rules.proofs.Invariant.{Passed, Space, Invariant, start_invariant, step_invariant, found_stops, learned_stops, where_learned}

-- one version lower leaves room for a whole subtree more
room_below : (k v w x : ℕ) → v < w → w ≤ k → (k - w) * x + x ≤ (k - v) * x
room_below k v w x h l =
    let m : suc (k - w) * x ≤ (k - v) * x = mul-le-mul_right x (omega arith) in
    omega (arith, suc-mul (k - w) x)

-- How many part-choices go on from one with so many places open: itself, and with each version of the place set next, those that go on from there.
abbrev pub parts : Setting → ℕ → ℕ
parts S zero = 1
parts S (suc u) = 1 + S.versions (suc u) * parts S u

module _ (S : Setting) where
  pub parts_pos : (u : ℕ) → 1 ≤ parts S u
  parts_pos zero = omega arith
  parts_pos (suc u) = omega arith

  -- twice the part-choices that go on from a part-choice
  abbrev under : Part → ℕ
  under s = 2 * parts S (open_places S s)

  under_next : (v : ℕ) (t : Part) → length t < S.places → under t ≡ 2 + S.versions (open_places S t) * under (v ∷ t)
  under_next v t h =
      let u : ℕ = open_places S (v ∷ t) in
      let e : open_places S t ≡ suc u = omega arith in
      let p : parts S (open_places S t) ≡ 1 + S.versions (open_places S t) * parts S u = ap (parts S) e ∙ ap (λ q. 1 + S.versions q * parts S u) (sym e) in
      let m : S.versions (open_places S t) * (2 * parts S u) ≡ 2 * (S.versions (open_places S t) * parts S u) = mul_left_comm (S.versions (open_places S t)) 2 (parts S u) in
      omega arith

  -- what is still to come beside and above a part-choice
  abbrev weight : Part → ℕ
  weight [] = 0
  weight (v ∷ t) = (S.versions (open_places S t) - v) * under (v ∷ t) + 1 + weight t

  abbrev height : Bool → Part → ℕ
  height b s = cond b 1 (under s) + weight s

  under_big : (s : Part) → 2 ≤ under s
  under_big s = omega (arith, parts_pos (open_places S s))

  height_stopped : (b : Bool) (s : Part) → b ≡ true → height b s ≡ 1 + weight s
  height_stopped b s h = ap (λ x. x + weight s) (cond-true b 1 (under s) h)

  height_free : (b : Bool) (s : Part) → b ≡ false → height b s ≡ under s + weight s
  height_free b s h = ap (λ x. x + weight s) (cond-false b 1 (under s) h)

  height_pos : (b : Bool) (s : Part) → 1 ≤ height b s
  height_pos true s = omega arith
  height_pos false s = omega (arith, under_big s)

  height_most : (b : Bool) (s : Part) → height b s ≤ under s + weight s
  height_most true s = omega (arith, under_big s)
  height_most false s = omega arith

  -- a place takes a version above one that is passed
  fall_move : (v w : ℕ) (t : Part) → v < w → w ≤ S.versions (open_places S t) → under (w ∷ t) + weight (w ∷ t) < 1 + weight (v ∷ t)
  fall_move v w t h l = omega (arith, room_below (S.versions (open_places S t)) v w (under (w ∷ t)) h l)

  -- an open place takes a version
  fall_set : (w : ℕ) (t : Part) → length t < S.places → 1 ≤ w → w ≤ S.versions (open_places S t) → under (w ∷ t) + weight (w ∷ t) < under t + weight t
  fall_set w t s h l =
      let m : S.versions (open_places S t) * under (w ∷ t) ≡ (S.versions (open_places S t) - 0) * under (w ∷ t) = ap (λ x. x * under (w ∷ t)) (omega arith) in
      omega (arith, room_below (S.versions (open_places S t)) 0 w (under (w ∷ t)) h l, under_next w t s)

  -- version 1 everywhere
  start_height : SoundSetting S → (n : ℕ) → n ≤ S.places → under (replicate n 1) + weight (replicate n 1) ≤ 2 * parts S S.places
  start_height W zero h =
      let e : parts S (open_places S []) ≡ parts S S.places = ap (parts S) (omega arith) in
      omega arith
  start_height W (suc n) h =
      let e : length (replicate {A = ℕ} n 1) ≡ n = length-replicate n 1 in
      let t : Part = replicate n 1 in
      let k : 1 ≤ S.versions (open_places S t) = W.some_version (open_places S t) (omega arith) (omega arith) in
      let f : under (1 ∷ t) + weight (1 ∷ t) < under t + weight t = fall_set 1 t (omega arith) (omega arith) k in
      omega (arith, start_height W n (omega arith))

  module _ (W : SoundSetting S) (L : Limits) where
    pub potential : State → ℕ
    potential σ = height (stopped S L σ σ.part) σ.part

    -- where a ground is learned there was more above the part-choice
    learns_above : (σ : State) (t : Part) → Learns S L σ t → 1 + weight t < potential σ
    unfolding potential
    learns_above σ t (no_other v _ e h all) = omega (arith, ap (λ s. height (stopped S L σ s) s) e ∙ height_stopped _ (v ∷ t) h)
    learns_above σ t (no_version some free all) = omega (arith, height_free _ σ.part free, under_big σ.part)

    pub step_falls : (σ τ : State) → Invariant S W L σ → Step S L σ τ → potential τ < potential σ
    unfolding potential
    step_falls σ τ i (move v w t e h low d) =
        let pa : Passed (stopped S L σ) (v ∷ t) = subst (Passed (stopped S L σ)) e i.passed in
        let up : v < w = elim (cases_lt v w) [
          | inl p ↦ p
          | inr p ↦ elim (cases_lt w v) [
            | inl q ↦ clash (pa.0 w low.counted q) low.free
            | inr q ↦ absurd (low.other (omega arith))
          ]
        ] in
        let before : potential σ ≡ 1 + weight (v ∷ t) = ap potential_at e ∙ height_stopped _ (v ∷ t) h in
        let after : potential τ ≡ under (w ∷ t) + weight (w ∷ t) = ap potential d ∙ height_free _ (w ∷ t) low.free in
        omega (arith, before, after, fall_move v w t up low.there)
      where
        potential_at : Part → ℕ
        potential_at s = height (stopped S L σ s) s
    step_falls σ τ i (found full free d) =
        let before : potential σ ≡ under σ.part + weight σ.part = height_free _ σ.part free in
        let after : potential τ ≡ 1 + weight σ.part = ap potential d ∙ height_stopped _ σ.part (found_stops S W L σ full) in
        omega (arith, before, after, under_big σ.part)
    step_falls σ τ i (set w some free low d) =
        let before : potential σ ≡ under σ.part + weight σ.part = height_free _ σ.part free in
        let after : potential τ ≡ under (w ∷ σ.part) + weight (w ∷ σ.part) = ap potential d ∙ height_free _ (w ∷ σ.part) low.free in
        omega (arith, before, after, fall_set w σ.part (omega arith) low.counted low.there)
    step_falls σ τ i (learns t l space d) =
        let w = where_learned S W L σ i t l in
        let after : potential τ ≡ 1 + weight t = ap potential d ∙ height_stopped _ t (learned_stops S W L σ t i.learnable w.small w.all) in
        omega (arith, after, learns_above σ t l)

    runs_fall : {k : ℕ} {σ τ : State} → Invariant S W L σ → Runs S L k σ τ → k + potential τ ≤ potential σ
    runs_fall i none = omega arith
    runs_fall i (more {k = k} {σ = σ} {τ = τ} {υ = υ} s r) =
        omega (arith, runs_fall (step_invariant S W L σ τ i s) r, step_falls σ τ i s)

    -- a search from version 1 everywhere makes fewer steps than twice the number of part-choices
    pub few_steps : (learned : List Ground) {k : ℕ} {τ : State} → AllByRecursion (Learnable S) learned → Space learned → Runs S L k (start S L learned) τ → k < 2 * parts S S.places
    unfolding potential
    few_steps learned {k} {τ} h sp r =
        let σ : State = start S L learned in
        omega (arith, runs_fall (start_invariant S W L learned h sp) r, height_pos (stopped S L τ τ.part) τ.part, height_most (stopped S L σ σ.part) σ.part, start_height W S.places (omega arith))
