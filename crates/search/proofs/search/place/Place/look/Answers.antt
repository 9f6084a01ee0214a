use Rattle.std.proofs.Common.{◌≡◌, ◌+◌, ◌-◌, ◌≤◌, true, [], get_or, set, length, length-set, None, sym, ap, subst, ◌∙◌, arith}
use Rattle.rules.specs.Search.{lowest_free}
use Rattle.search.specs.States.{chosen_from, job_limits, grounds, state_of}
use Rattle.search.specs.Looks.{StoodTo}
use Rattle.search.specs.Trials.{holds, above_place, versions_at}
use Rattle.search.proofs.Looks.{trial_free, looked_on}
use Rattle.search.proofs.search.place.Place.look.Goals.{After-ground_stands}
use Rattle.search.proofs.search.place.Place.look.Goals as goal

-- with a ground standing, no version up to the one tried is free, and for each the first ground is found
stopped_to : (c : After-ground_stands) → true ≡ holds c.trial-trial.result (get_or (grounds c.trial-trial.result.search.now) c.grounds.ground [])
    → (lowest_free (chosen_from c.args.self.now.search.now) (job_limits c.args.self.now.search.now) (state_of c.args.self.now.search.now) (above_place c.args.self.now) c.versions.version ≡ None) × StoodTo c.args.self.now.search.now (above_place c.args.self.now) c.versions.version (set c.grounds.stopped (c.versions.version - 1) c.grounds.ground)
stopped_to c on =
    let t = c.trial-trial in
    let inv = c.grounds.invariant in
    let long : c.versions.version ≤ length c.grounds.stopped = omega (arith, inv.long, c.versions-version-end.ensures.most, c.versions-test.true) in
    looked_on c.args.self.now c.versions.version t.result t.ensures.search t.ensures.tried c.grounds.ground inv.passed c.versions.auto.version c.versions.invariant.below c.grounds.stopped long inv.stood (omega (arith, c.ground_count-ground-end.ensures)) on

pub versions-preserved : goal.versions-preserved
versions-preserved c =
    let p = c.args.self.now in
    let s = p.search.now in
    let on = stopped_to (goal.at.versions-preserved c).After-ground_stands c.if-ground_stands.ensures in
    let back : c.versions.version ≡ c.versions.version + 1 - 1 = omega arith in
    record {
      below = subst (λ k. lowest_free (chosen_from s) (job_limits s) (state_of s) (above_place p) k ≡ None) back on.0;
      last = omega arith;
      long = length-set c.grounds.stopped (c.from.result - 1) c.grounds.ground ∙ c.grounds.invariant.long;
      stood = subst (λ k. StoodTo s (above_place p) k (set c.grounds.stopped (c.from.result - 1) c.grounds.ground)) back (rw c.from.ensures on.1);
    }

pub returns-then-ground_stands-clause-free : goal.returns-then-ground_stands-clause-free
returns-then-ground_stands-clause-free c =
    let p = c.args.self.now in
    let s = p.search.now in
    let on = stopped_to (goal.at.returns-then-ground_stands-clause-free c).After-ground_stands c.if-ground_stands.ensures in
    let all : c.versions.version ≡ versions_at p = omega (arith, c.versions-version-end.ensures.is) in
    sym on.0 ∙ ap (lowest_free (chosen_from s) (job_limits s) (state_of s) (above_place p)) all

pub returns-then-ground_stands-clause-stood : goal.returns-then-ground_stands-clause-stood
returns-then-ground_stands-clause-stood c = λ none.
    let p = c.args.self.now in
    let on = stopped_to (goal.at.returns-then-ground_stands-clause-stood c).After-ground_stands c.if-ground_stands.ensures in
    let all : c.versions.version ≡ versions_at p = omega (arith, c.versions-version-end.ensures.is) in
    subst (λ k. StoodTo p.search.now (above_place p) k (set c.grounds.stopped (c.from.result - 1) c.grounds.ground)) all (rw c.from.ensures on.1)

pub returns-2 : goal.returns-2
returns-2 c =
    let p = c.args.self.now in
    let s = p.search.now in
    let inv = c.versions.invariant in
    let all : c.versions.version - 1 ≡ versions_at p = omega (arith, c.versions-version-end.ensures.is, inv.last) in
    record {
      free = sym inv.below ∙ ap (lowest_free (chosen_from s) (job_limits s) (state_of s) (above_place p)) all;
      stood = λ none. subst (λ k. StoodTo s (above_place p) k c.versions.stopped) all inv.stood;
    }

pub returns-clause-free : goal.returns-clause-free
returns-clause-free c =
    let p = c.args.self.now in
    let t = c.trial-trial in
    sym (trial_free p c.versions.version t.result t.ensures.search t.ensures.tried c.grounds.ground c.grounds.invariant.passed c.versions.auto.version c.versions.invariant.below (omega (arith, c.ground_count-ground-end.ensures)) (versions_at p) (omega (arith, c.versions-version-end.ensures.is)))
