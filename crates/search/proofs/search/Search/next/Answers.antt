use Rattle.std.proofs.Common.{◌≡◌, ℕ, ◌-◌, ◌<◌, ◌∷◌, get_or, ap, subst, ◌∙◌, arith}
use Rattle.std.proofs.lemmas.List.{get_or-take}
use Rattle.rules.specs.Search.{go_on}
use Rattle.search.specs.Parts.{versions_of}
use Rattle.search.specs.Looks.{Passed}
use Rattle.search.specs.States.{chosen_from, job_limits, state_of, above}
use Rattle.search.proofs.Parts.{open_part, part_none, part_head, part_above}
use Rattle.search.proofs.NextSteps.{next_ended, next_place, next_best, next_open}
use Rattle.search.proofs.search.Search.next.Goals as goal

pub returns-in-Some-clause-outcome : goal.returns-in-Some-clause-outcome
returns-in-Some-clause-outcome c =
    let s = c.args.self.now in
    let all : s.part.opened ≡ s.grid.places = omega (arith, c.opened-opened.ensures, c.places.ensures.is) in
    next_ended (chosen_from s) (job_limits s) (state_of s) _ c.in-Some.ensures.first (part_none s all)

pub returns-in-Some-2-clause-outcome : goal.returns-in-Some-2-clause-outcome
returns-in-Some-2-clause-outcome c =
    let s = c.args.self.now in
    let low : s.part.opened < s.grid.places = omega (arith, s.within, c.opened-opened.ensures, c.places.ensures.is) in
    c.at_place.ensures.outcome
    ∙ ap (λ (i : ℕ). go_on (chosen_from s) (job_limits s) (state_of s) (above s i)) c.opened-opened.ensures
    ∙ next_place (chosen_from s) (job_limits s) (state_of s) _ (get_or (versions_of s.grid.places s.part) s.part.opened 0) (above s s.part.opened) c.in-Some-2.ensures.first (part_head s low)

pub returns-in-None-clause-outcome : goal.returns-in-None-clause-outcome
returns-in-None-clause-outcome c =
    let s = c.args.self.now in
    let none : s.part.opened ≡ 0 = omega (arith, c.opened-opened.ensures) in
    next_best (chosen_from s) (job_limits s) (state_of s) c.in-None.ensures.first (open_part s ∙ none)

pub returns-in-None-2-clause-outcome : goal.returns-in-None-2-clause-outcome
returns-in-None-2-clause-outcome c =
    let s = c.args.self.now in
    let some : 0 < s.part.opened = omega (arith, c.opened-opened.ensures) in
    let opened = open_part s in
    c.at_place-in-None-2.ensures.outcome
    ∙ ap (λ (i : ℕ). go_on (chosen_from s) (job_limits s) (state_of s) (above s (i - 1))) c.opened-opened.ensures
    ∙ ap (go_on (chosen_from s) (job_limits s) (state_of s)) (part_above s some)
    ∙ next_open (chosen_from s) (job_limits s) (state_of s) c.in-None-2.ensures.first (λ e. omega arith)

pub at_place-requires-clause-passed : goal.at_place-requires-clause-passed
at_place-requires-clause-passed c =
    let s = c.args.self.now in
    let low : s.part.opened < s.grid.places = omega (arith, s.within, c.opened-opened.ensures, c.places.ensures.is) in
    let head = part_head s low ∙ ap (λ v. v ∷ above s s.part.opened) (get_or-take s.grid.places s.part.versions s.part.opened 0 low) in
    rw c.opened-opened.ensures (subst (λ t. Passed s t c.in-Some.ground) head c.in-Some.ensures.passed)
