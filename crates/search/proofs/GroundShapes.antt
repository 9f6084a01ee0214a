-- Learned grounds keep their shape, and a closing ground has no row twice. Assumes nothing.
use Rattle.std.proofs.Common.{◌≡◌, ℕ, zero, suc, ◌+◌, ◌≤◌, true, eqb, leb, List, [], ◌∷◌, ◌++◌, map, length, get_or, Some, None, Option, sym, refl, ap, subst, arith}
use Rattle.std.specs.List.{AllByRecursion}
use Rattle.std.proofs.lemmas.List.{take_all}
use Rattle.std.proofs.lemmas.Bool.{and_parts, and_from, leb-true, le-leb, cond_both}
use Rattle.std.proofs.lemmas.Bool.Decides.{nat_tests}
use Rattle.rules.specs.declared.lines.Line.{Line}
use Rattle.rules.specs.Bounds.{greatest_row, most_rows}
use Rattle.rules.specs.Sheets.{Limits}
use Rattle.rules.specs.Grounds.{Setting, Part, Ground, Ordered, before, open_places, line_stands, stands, first_standing, ground_in, of_row, starting, ledger, moved, learned_up_to, learn_from}
use Rattle.rules.specs.Search.{State, in_force, ground_at, Step, move, found, set, learns, Named, Outcome, ended, full, stepped, next}
use Rattle.rules.specs.Calls.{least, nothing, finding_at, run_from}
use Rattle.rules.proofs.Agree.{next_named}
use Rattle.rules.proofs.Firsts.{Holds, first_holds}
use Rattle.rules.proofs.Shapes.{ordered_with_lines}
use Rattle.rules.proofs.StandingLines.{with_lines_all}
use Rattle.ledger.specs.Lines.{AllNear}
use Rattle.ledger.specs.Model.{held}
use Rattle.ledger.specs.Places.{rising}
use Rattle.ledger.proofs.Cuts.{held_near}
use Rattle.ledger.proofs.FewLines.{ordered_since, since_ordered}
use Rattle.search.specs.Findings.{levels_to, shaped, all_shaped, learned_shaped, cut_finding, told}
use Rattle.search.specs.States.{chosen_from, job_limits, state_of}
use Rattle.search.specs.declared.search.Search.{Search}
use Rattle.search.proofs.Running.{onward}

module _ (S : Setting) (few : S.last_row ≤ greatest_row) where
  -- a line of a row that there can be and a level that there is
  abbrev InRange : Line → Type 0
  InRange l = (l.row ≤ greatest_row) × (l.level ≤ S.places)

  abbrev Fit : Ground → Type 0
  Fit g = Ordered g × AllByRecursion InRange g

  row_fit : (r : ℕ) → r ≤ greatest_row → Fit (of_row S r)
  row_fit r h = ((tt, tt), ((h, omega arith), tt))

  append_fit : (gs hs : List Ground) → AllByRecursion Fit gs → AllByRecursion Fit hs → AllByRecursion Fit (gs ++ hs)
  append_fit [] hs h k = k
  append_fit (g ∷ gs) hs h k = (h.0, append_fit gs hs h.1 k)

  starting_fit : (r : ℕ) → r ≤ greatest_row → AllByRecursion Fit (starting S r)
  starting_fit zero h = (row_fit 0 h, tt)
  starting_fit (suc r) h = append_fit (starting S r) (of_row S (suc r) ∷ []) (starting_fit r (omega arith)) (row_fit (suc r) h, tt)

  ledger_fit : (gs : List Ground) → AllByRecursion Fit gs → AllByRecursion Fit (ledger S gs)
  ledger_fit gs h = append_fit (starting S S.last_row) gs (starting_fit S.last_row few) h

  -- a ground that stands with all places open has lines of one level, and so no row twice
  one_level : (L : Limits) (g : Ground) → stands S L [] g ≡ true → AllByRecursion InRange g → AllByRecursion (λ l. l.level ≡ S.places) g
  one_level L [] h r = tt
  one_level L (l ∷ g) h r =
      let here = and_parts (line_stands S L [] l) (stands S L [] g) h in
      let low : open_places S [] ≤ l.level = leb-true _ _ (and_parts (leb (open_places S []) l.level) _ here.0).0 in
      (omega (arith, r.0.1), one_level L g here.1 r.1)

  row_rises : (a b : Line) → before a b ≡ true → a.level ≡ S.places → b.level ≡ S.places → suc a.row ≤ b.row
  row_rises a b first p q = grind (arith, nat_tests)

  rows_rise : (a : Line) (g : Ground) → AllByRecursion (λ b. before a b ≡ true) g → a.level ≡ S.places → AllByRecursion (λ l. l.level ≡ S.places) g → AllByRecursion (λ b. suc a.row ≤ b.row) g
  rows_rise a [] h p all = tt
  rows_rise a (b ∷ g) h p all = (row_rises a b h.0 p all.0, rows_rise a g h.1 p all.1)

  few_from : (g : Ground) (k : ℕ) → Ordered g → AllByRecursion InRange g → AllByRecursion (λ l. l.level ≡ S.places) g → AllByRecursion (λ l. k ≤ l.row) g → k ≤ most_rows → length g + k ≤ most_rows
  few_from [] k ordered range one low most = omega arith
  few_from (a ∷ g) k ordered range one low most =
      let row = range.0.0 in
      let rest = few_from g (suc a.row) ordered.1 range.1 one.1 (rows_rise a g ordered.0 one.0 one.1) (omega arith) in
      omega (arith, low.0)

  any_row : (g : Ground) → AllByRecursion (λ l. 0 ≤ l.row) g
  any_row [] = tt
  any_row (l ∷ g) = (omega arith, any_row g)

  closing_few : (L : Limits) (g : Ground) → Fit g → stands S L [] g ≡ true → length g ≤ most_rows
  closing_few L g fit on = let all = few_from g 0 fit.0 fit.1 (one_level L g on fit.1) (any_row g) (omega arith) in omega arith

  module _ (L : Limits) where
    ended_few : (σ : State) (g : Ground) → AllByRecursion Fit σ.learned → next S L σ ≡ ended g → length g ≤ most_rows
    ended_few σ g h e =
        let named = subst (Named S L σ) e (next_named S L σ) in
        let at = subst (Holds (λ x. Fit x × (stands S (in_force S L σ) [] x ≡ true))) named.1 (first_holds S Fit (in_force S L σ) [] (ledger S σ.learned) (ledger_fit σ.learned h)) in
        closing_few (in_force S L σ) g at.0 at.1

    cut_ended : (best : Option Part) (g : Ground) → length g ≤ most_rows → cut_finding (finding_at best (ended g)) ≡ finding_at best (ended g)
    cut_ended None g h = ap nothing (take_all most_rows g h)
    cut_ended (Some c) g h = ap (least c) (take_all most_rows g h)

    cut_at : (best : Option Part) (o : Outcome) → ((g : Ground) → o ≡ ended g → length g ≤ most_rows) → cut_finding (finding_at best o) ≡ finding_at best o
    cut_at best (ended g) h = cut_ended best g (h g refl)
    cut_at best full h = refl
    cut_at best (stepped τ) h = refl

    -- nothing is cut from what is found
    whole_finding : (σ : State) → AllByRecursion Fit σ.learned → cut_finding (finding_at σ.best (next S L σ)) ≡ finding_at σ.best (next S L σ)
    whole_finding σ h = cut_at σ.best (next S L σ) (λ g. ended_few σ g h)

    -- what is learned from grounds of that shape has it
    moved_in : (t : Part) (v : ℕ) (l : Line) → InRange l → InRange (moved S t v l)
    moved_in t v l h = cond_both (eqb (suc l.level) (open_places S t)) _ l InRange (λ e. (h.0, omega arith)) (λ e. h)

    moved_all : (t : Part) (v : ℕ) (g : Ground) → AllByRecursion InRange g → AllByRecursion InRange (map (moved S t v) g)
    moved_all t v [] h = tt
    moved_all t v (l ∷ g) h = (moved_in t v l h.0, moved_all t v g h.1)

    picked_in : (P : Ground → Type 0) (o : Option Ground) → Holds (λ x. Fit x × P x) o → AllByRecursion InRange (ground_in o)
    picked_in P None h = tt
    picked_in P (Some g) h = h.0.1

    up_to_fit : (t : Part) (pick : ℕ → Ground) → ((v : ℕ) → AllByRecursion InRange (pick v)) → (k : ℕ) → Fit (learned_up_to S t pick k)
    up_to_fit t pick all zero = (tt, tt)
    up_to_fit t pick all (suc k) =
        let below = up_to_fit t pick all k in
        let lines = map (moved S t (suc k)) (pick (suc k)) in (
          ordered_with_lines S lines _ below.0,
          with_lines_all S InRange lines _ (moved_all t (suc k) (pick (suc k)) (all (suc k))) below.1,
        )

    learn_fit : (t : Part) (pick : ℕ → Ground) → ((v : ℕ) → AllByRecursion InRange (pick v)) → Fit (learn_from S t pick)
    unfolding learn_from
    learn_fit t pick all = up_to_fit t pick all (S.versions (open_places S t))

    -- every step keeps the shape, and so does every run
    step_fit : (σ τ : State) → Step S L σ τ → AllByRecursion Fit σ.learned → AllByRecursion Fit τ.learned
    step_fit σ τ (move v w t e b f d) h = subst (λ (x : State). AllByRecursion Fit x.learned) (sym d) h
    step_fit σ τ (found e b d) h = subst (λ (x : State). AllByRecursion Fit x.learned) (sym d) h
    step_fit σ τ (set w e b f d) h = subst (λ (x : State). AllByRecursion Fit x.learned) (sym d) h
    step_fit σ τ (learns t l r d) h =
        subst (λ (x : State). AllByRecursion Fit x.learned) (sym d)
        (append_fit σ.learned (ground_at S L σ t ∷ []) h
        (learn_fit t _ (λ v. picked_in _ (first_standing S (in_force S L σ) (ledger S σ.learned) (v ∷ t)) (first_holds S Fit (in_force S L σ) (v ∷ t) (ledger S σ.learned) (ledger_fit σ.learned h))), tt))

    onward_fit : (b : ℕ) (σ : State) → AllByRecursion Fit σ.learned → ((τ : State) → AllByRecursion Fit τ.learned → AllByRecursion Fit (run_from S L b τ).state.learned) → (o : Outcome) → Named S L σ o → AllByRecursion Fit (onward S L σ b o).state.learned
    onward_fit b σ h rest (ended g) n = h
    onward_fit b σ h rest full n = h
    onward_fit b σ h rest (stepped τ) n = rest τ (step_fit σ τ n h)

    run_fit : (b : ℕ) (σ : State) → AllByRecursion Fit σ.learned → AllByRecursion Fit (run_from S L b σ).state.learned
    run_fit zero σ h = h
    run_fit (suc b) σ h = onward_fit b σ h (run_fit b) (next S L σ) (next_named S L σ)

-- the shape as a test, and as a fact
module _ (S : Setting) (few : S.last_row ≤ greatest_row) where
  in_range_since : (g : Ground) → levels_to S.places g ≡ true → AllNear g → AllByRecursion (InRange S few) g
  in_range_since [] h near = tt
  in_range_since (l ∷ g) h near =
      let parts = and_parts (leb l.level S.places) _ h in
      (((near 0).0, leb-true _ _ parts.0), in_range_since g parts.1 (λ k. near (suc k)))

  since_in_range : (g : Ground) → AllByRecursion (InRange S few) g → levels_to S.places g ≡ true
  since_in_range [] h = refl
  since_in_range (l ∷ g) h = and_from (leb l.level S.places) _ (le-leb _ _ h.0.1) (since_in_range g h.1)

  fit_since : (gs : List Ground) → all_shaped S.places gs ≡ true → ((k : ℕ) → AllNear (get_or gs k [])) → AllByRecursion (Fit S few) gs
  fit_since [] h near = tt
  fit_since (g ∷ gs) h near =
      let parts = and_parts (shaped S.places g) _ h in
      let both = and_parts (rising g) _ parts.0 in
      ((ordered_since g both.0, in_range_since g both.1 (near 0)), fit_since gs parts.1 (λ k. near (suc k)))

  since_fit : (gs : List Ground) → AllByRecursion (Fit S few) gs → all_shaped S.places gs ≡ true
  since_fit [] h = refl
  since_fit (g ∷ gs) h =
      and_from (shaped S.places g) _ (and_from (rising g) _ (since_ordered g h.0.0) (since_in_range g h.0.1)) (since_fit gs h.1)

-- the learned grounds of a search
module _ (s : Search) (fits : learned_shaped s ≡ true) where
  learned_fit : AllByRecursion (Fit (chosen_from s) s.grid.few_rows) (held s.ledger)
  learned_fit = fit_since (chosen_from s) s.grid.few_rows (held s.ledger) fits (held_near s.ledger)

  pub whole_told : cut_finding (told s).finding ≡ (told s).finding
  whole_told = whole_finding (chosen_from s) s.grid.few_rows (job_limits s) (state_of s) learned_fit

  pub still_shaped : (b : ℕ) → all_shaped s.grid.places (run_from (chosen_from s) (job_limits s) b (state_of s)).state.learned ≡ true
  still_shaped b = since_fit (chosen_from s) s.grid.few_rows _ (run_fit (chosen_from s) s.grid.few_rows (job_limits s) b (state_of s) learned_fit)
