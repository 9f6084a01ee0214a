use Rattle.std.proofs.Common.{◌≡◌, [], true, false, get_or, rules, tests}
use Rattle.std.proofs.lemmas.Iterator.{first_from_Range}
use Rattle.search.specs.States.{chosen_from, force, grounds}
use Rattle.search.specs.Trials.{tried, holds}
use Rattle.search.proofs.Standing.{first_is}
use Rattle.search.proofs.search.trial.Trial.first_standing.Goals as goal

pub returns-clause-first : goal.returns-clause-first
returns-clause-first c =
    let t = c.args.self.now in
    let s = t.search.now in
    first_is (chosen_from s) (force s) (tried t) (grounds s) c.find.result c.ground_count.result c.ground_count.ensures
    (first_from_Range _ _ _ _ (λ k. holds t (get_or (grounds s) k []) ≡ true) (λ k. holds t (get_or (grounds s) k []) ≡ false) c.find.ensures.ran (λ x q h. search (rules, tests)) (λ x q h. search (rules, tests)))
