-- What comes next, case by case. Assumes nothing.
use Rattle.std.proofs.Common.{◌≡◌, ℕ, eqb, [], ◌∷◌, Some, None, sym, ap, ◌∙◌}
use Rattle.std.proofs.lemmas.Bool.{cond-true, cond-false, eq-eqb, ne_eqb}
use Rattle.rules.specs.Sheets.{Limits}
use Rattle.rules.specs.Grounds.{Setting, Part, Ground, open_places}
use Rattle.rules.specs.Search.{State, first_ground, with_best, go_on, after_ground, by_ground, next, ended, stepped}
use Rattle.search.specs.Settings.{setting}
use Rattle.search.specs.States.{chosen_from, job_limits, limits_of, SameJob}
use Rattle.search.specs.declared.search.Search.{Search}

module _ (S : Setting) (L : Limits) (σ : State) where
  pub next_ended : (g : Ground) → Some g ≡ first_ground S L σ σ.part → σ.part ≡ [] → ended g ≡ next S L σ
  unfolding next
  next_ended g e none = sym (ap (by_ground S L σ) (sym e) ∙ ap (after_ground S L σ g) none)

  pub next_place : (g : Ground) (v : ℕ) (t : Part) → Some g ≡ first_ground S L σ σ.part → σ.part ≡ v ∷ t → go_on S L σ t ≡ next S L σ
  unfolding next
  next_place g v t e head = sym (ap (by_ground S L σ) (sym e) ∙ ap (after_ground S L σ g) head)

  pub next_best : None ≡ first_ground S L σ σ.part → open_places S σ.part ≡ 0 → stepped (with_best S L σ) ≡ next S L σ
  unfolding next
  next_best e none = sym (ap (by_ground S L σ) (sym e) ∙ cond-true (eqb (open_places S σ.part) 0) _ _ (eq-eqb _ 0 none))

  pub next_open : None ≡ first_ground S L σ σ.part → (open_places S σ.part ≡ 0 → ⊥) → go_on S L σ σ.part ≡ next S L σ
  unfolding next
  next_open e some = sym (ap (by_ground S L σ) (sym e) ∙ cond-false (eqb (open_places S σ.part) 0) _ _ (ne_eqb _ 0 some))

-- what comes next rests on the grid and the limits
pub next_kept : (s t : Search) (σ : State) → SameJob s t → next (chosen_from s) (job_limits s) σ ≡ next (chosen_from t) (job_limits t) σ
next_kept s t σ same = ap (λ g. next (setting g) (job_limits s) σ) same.0 ∙ ap (λ l. next (chosen_from t) (limits_of l) σ) same.1
