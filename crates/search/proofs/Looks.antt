-- The versions of a place, one more looked at a time. Assumes nothing.
use Rattle.std.proofs.Common.{◌≡◌, ℕ, zero, suc, ◌+◌, ◌-◌, ◌<◌, ◌≤◌, Bool, true, false, cond, [], ◌∷◌, length, get_or, drop, is_some, Some, None, Option, set, List, sym, ap, ◌∙◌, subst, ⊎_elim, inl, inr, arith}
use Rattle.std.proofs.lemmas.List.{get_or-set_same, get_or-set_other}
use Rattle.std.proofs.lemmas.Bool.{cases_lt}
use Rattle.rules.specs.Sheets.{Limits}
use Rattle.rules.specs.Grounds.{Setting, Part, Ground, ground_in, first_standing}
use Rattle.rules.specs.Search.{State, stopped, lowest_free}
use Rattle.search.specs.States.{chosen_from, job_limits, force, grounds, state_of, pick_of}
use Rattle.search.specs.Looks.{Passed, StoodTo}
use Rattle.search.specs.Trials.{tried, holds, first_at, above_place}
use Rattle.search.specs.declared.search.Search.{Search}
use Rattle.search.specs.declared.search.place.Place.{Place}
use Rattle.search.specs.declared.search.trial.Trial.{Trial}
use Rattle.search.proofs.Standing.{first_found, first_more, first_none}

module _ (S : Setting) (L : Limits) (σ : State) (t : Part) where
  choose : Option ℕ → Bool → ℕ → Option ℕ
  choose o b k = elim o [ Some w ↦ Some w | None ↦ cond b None (Some k) ]

  -- with none free below a version, the next look is at the version
  at_version : (v : ℕ) (b : Bool) → 1 ≤ v → lowest_free S L σ t (v - 1) ≡ None → stopped S L σ (v ∷ t) ≡ b → lowest_free S L σ t v ≡ cond b None (Some v)
  unfolding choose
  at_version v b some before is =
      let back : v ≡ suc (v - 1) = omega arith in
      ap (lowest_free S L σ t) back
      ∙ ap (λ o. choose o (stopped S L σ (suc (v - 1) ∷ t)) (suc (v - 1))) before
      ∙ ap (λ k. cond (stopped S L σ (k ∷ t)) None (Some k)) (sym back)
      ∙ ap (λ c. cond c None (Some v)) is

  -- what is found stays the lowest
  stays : (v w k : ℕ) → lowest_free S L σ t v ≡ Some w → v ≤ k → lowest_free S L σ t k ≡ Some w
  unfolding choose
  stays v w zero is le = let e : 0 ≡ v = omega arith in ap (lowest_free S L σ t) e ∙ is
  stays v w (suc k) is le =
      ⊎_elim
      (λ lt. ap (λ o. choose o (stopped S L σ (suc k ∷ t)) (suc k)) (stays v w k is (omega arith)))
      (λ ge. let e : suc k ≡ v = omega arith in ap (lowest_free S L σ t) e ∙ is)
      (cases_lt v (suc k))

  found_free : (v k : ℕ) → 1 ≤ v → v ≤ k → lowest_free S L σ t (v - 1) ≡ None → stopped S L σ (v ∷ t) ≡ false → lowest_free S L σ t k ≡ Some v
  found_free v k some le before free = stays v v k (at_version v false some before free) le

-- the first grounds found, for one version more
pub stood_more : (s : Search) (t : Part) (v g : ℕ) (found : List ℕ) → 1 ≤ v → v ≤ length found → StoodTo s t (v - 1) found → get_or (grounds s) g [] ≡ pick_of s t v → StoodTo s t v (set found (v - 1) g)
stood_more s t v g found some long below is u from to =
    elim (cases_lt u v) [
      | inl low ↦ ap (λ k. get_or (grounds s) k []) (get_or-set_other found (v - 1) (u - 1) g 0 (λ e. omega arith)) ∙ below u from (omega arith)
      | inr here ↦
          let same : v ≡ u = omega arith in
          ap (λ w. get_or (grounds s) (get_or (set found (v - 1) g) (w - 1) 0) []) (sym same)
          ∙ ap (λ k. get_or (grounds s) k []) (get_or-set_same found (v - 1) g 0 (omega arith))
          ∙ is ∙ ap (pick_of s t) same
    ]

-- a version tried at a place, with grounds from an index on still to be looked at
module _ (p : Place) (v : ℕ) (t : Trial) (same : t.search.now ≡ p.search.now) (is : tried t ≡ v ∷ above_place p) where
  -- where the look begins
  pub trial_begins : (i : ℕ) → Passed p.search.now (v ∷ above_place p) i → first_at t (grounds t.search.now) ≡ first_at t (drop i (grounds t.search.now))
  trial_begins i passed =
      subst (λ (s : Search). first_standing (chosen_from s) (force s) (grounds s) (tried t) ≡ first_standing (chosen_from s) (force s) (drop i (grounds s)) (tried t)) (sym same)
      (subst (λ (c : Part). Passed p.search.now c i) (sym is) passed)

module _ (p : Place) (v : ℕ) (t : Trial) (same : t.search.now ≡ p.search.now) (is : tried t ≡ v ∷ above_place p) (i : ℕ) (so_far : first_at t (grounds t.search.now) ≡ first_at t (drop i (grounds t.search.now))) where
  abbrev S : Setting
  S = chosen_from p.search.now

  abbrev L : Limits
  L = job_limits p.search.now

  abbrev σ : State
  σ = state_of p.search.now

  stopped_is : (o : Option Ground) → first_at t (drop i (grounds t.search.now)) ≡ o → stopped S L σ (v ∷ above_place p) ≡ is_some o
  stopped_is o e = ap (λ (s : Search). stopped (chosen_from s) (job_limits s) (state_of s) (v ∷ above_place p)) (sym same) ∙ ap (stopped (chosen_from t.search.now) (job_limits t.search.now) (state_of t.search.now)) (sym is) ∙ ap is_some (so_far ∙ e)

  counted : length (grounds p.search.now) ≡ length (grounds t.search.now)
  counted = ap (λ (s : Search). length (grounds s)) (sym same)

  pub trial_more : i < length (grounds p.search.now) → false ≡ holds t (get_or (grounds t.search.now) i []) → first_at t (grounds t.search.now) ≡ first_at t (drop (i + 1) (grounds t.search.now))
  trial_more there falls = so_far ∙ first_more (chosen_from t.search.now) (force t.search.now) (tried t) (grounds t.search.now) i (omega (arith, counted)) (sym falls)

  module _ (some : 1 ≤ v) (before : lowest_free S L σ (above_place p) (v - 1) ≡ None) where
    pub trial_stopped : i < length (grounds p.search.now) → true ≡ holds t (get_or (grounds t.search.now) i []) → lowest_free S L σ (above_place p) v ≡ None
    trial_stopped there on = at_version S L σ (above_place p) v true some before (stopped_is _ (first_found (chosen_from t.search.now) (force t.search.now) (tried t) (grounds t.search.now) i (omega (arith, counted)) (sym on)))

    pub trial_free : length (grounds p.search.now) ≤ i → (k : ℕ) → v ≤ k → lowest_free S L σ (above_place p) k ≡ Some v
    trial_free past k le = found_free S L σ (above_place p) v k some le before (stopped_is _ (first_none (chosen_from t.search.now) (force t.search.now) (tried t) (grounds t.search.now) i (omega (arith, counted))))

  -- what stands is what the rules pick
  pub trial_picks : i < length (grounds p.search.now) → true ≡ holds t (get_or (grounds t.search.now) i []) → get_or (grounds p.search.now) i [] ≡ pick_of p.search.now (above_place p) v
  trial_picks there on =
      let found = so_far ∙ first_found (chosen_from t.search.now) (force t.search.now) (tried t) (grounds t.search.now) i (omega (arith, counted)) (sym on) in
      subst (λ (s : Search). get_or (grounds s) i [] ≡ pick_of s (above_place p) v) same
      (sym (ap (λ c. ground_in (first_standing (chosen_from t.search.now) (force t.search.now) (grounds t.search.now) c)) (sym is) ∙ ap ground_in found))

  -- with a ground that stands, no version up to this one is free, and for each the first that stands is found
  module _ (some : 1 ≤ v) (below : lowest_free S L σ (above_place p) (v - 1) ≡ None) (found : List ℕ) (long : v ≤ length found) (stood : StoodTo p.search.now (above_place p) (v - 1) found) where
    pub looked_on : i < length (grounds p.search.now) → true ≡ holds t (get_or (grounds t.search.now) i []) → (lowest_free S L σ (above_place p) v ≡ None) × StoodTo p.search.now (above_place p) v (set found (v - 1) i)
    looked_on there on = (trial_stopped some below there on, stood_more p.search.now (above_place p) v i found some long stood (trial_picks there on))
