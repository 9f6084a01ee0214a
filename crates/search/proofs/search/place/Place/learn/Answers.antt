use Rattle.std.proofs.Common.{◌≡◌, ◌+◌, ◌-◌, [], map, get_or, ap, ◌∙◌, arith}
use Rattle.rules.specs.Grounds.{Ground, with_lines, learned_up_to}
use Rattle.ledger.specs.Drafted.{drafted}
use Rattle.search.specs.States.{chosen_from, grounds, moved_at, pick_of}
use Rattle.search.specs.Trials.{above_place}
use Rattle.search.proofs.Parts.{open_above}
use Rattle.search.proofs.Learns.{learned_more, learned_all}
use Rattle.search.proofs.search.place.Place.learn.Goals.{After-put_version}
use Rattle.search.proofs.search.place.Place.learn.Goals as goal

-- what was put in is the ground that the rules pick
put : (c : After-put_version) → drafted c.put_version.new.draft ≡ with_lines (chosen_from c.args.self.now.search.now) (map (moved_at (chosen_from c.args.self.now.search.now) (c.args.self.now.index + 1) c.loop-version.version) (pick_of c.args.self.now.search.now (above_place c.args.self.now) c.loop-version.version)) (drafted c.loop-version.draft)
put c =
    let p = c.args.self.now in
    let s = p.search.now in
    let v = c.loop-version.version in
    let S = chosen_from s in
    let with = λ (g : Ground). with_lines S (map (moved_at S (p.index + 1) v) g) (drafted c.loop-version.draft) in
    c.put_version.ensures
    ∙ ap (λ k. with (get_or (grounds s) (get_or c.args.stopped (k - 1) 0) [])) c.from.ensures
    ∙ ap with (c.requires v c.loop-version.auto.version (omega (arith, c.versions-version-end.ensures.is, c.loop-version-test.true)))

-- the draft has what the versions give, up to this one
up_to : (c : After-put_version) → drafted c.put_version.new.draft ≡ learned_up_to (chosen_from c.args.self.now.search.now) (above_place c.args.self.now) (pick_of c.args.self.now.search.now (above_place c.args.self.now)) c.loop-version.version
up_to c =
    let p = c.args.self.now in
    let s = p.search.now in
    learned_more (chosen_from s) (above_place p) (pick_of s (above_place p)) (p.index + 1) (open_above s p.index p.there) c.loop-version.version (drafted c.loop-version.draft) (drafted c.put_version.new.draft) c.loop-version.auto.version c.loop-version.invariant.below (put c)

pub loop-version-preserved : goal.loop-version-preserved
loop-version-preserved c =
    let p = c.args.self.now in
    let s = p.search.now in
    let on : c.loop-version.version ≡ c.loop-version.version + 1 - 1 = omega arith in
    record { below = up_to (goal.at.loop-version-preserved c).After-put_version ∙ ap (learned_up_to (chosen_from s) (above_place p) (pick_of s (above_place p))) on; last = omega arith }

pub returns : goal.returns
returns c =
    let p = c.args.self.now in
    let s = p.search.now in
    let all : c.loop-version.version - 1 ≡ (chosen_from s).versions (p.index + 1) = omega (arith, c.versions-version-end.ensures.is, c.loop-version.invariant.last) in
    learned_all (chosen_from s) (above_place p) (pick_of s (above_place p)) (p.index + 1) (open_above s p.index p.there) (c.loop-version.version - 1) (drafted c.loop-version.draft) all c.loop-version.invariant.below

pub returns-2 : goal.returns-2
returns-2 c =
    let p = c.args.self.now in
    let s = p.search.now in
    let all : c.loop-version.version ≡ (chosen_from s).versions (p.index + 1) = omega (arith, c.versions-version-end.ensures.is) in
    learned_all (chosen_from s) (above_place p) (pick_of s (above_place p)) (p.index + 1) (open_above s p.index p.there) c.loop-version.version (drafted c.put_version.new.draft) all (up_to (goal.at.returns-2 c).After-put_version)
