use Rattle.std.proofs.Common.{◌≡◌, ◌<◌, get_or, drop, pos, ap, ◌∙◌, arith}
use Rattle.rules.specs.Grounds.{part_total}
use Rattle.search.specs.Parts.{versions_of}
use Rattle.search.specs.Sums.{no_sums}
use Rattle.search.specs.States.{chosen_from}
use Rattle.std.proofs.lemmas.List.{get_or_default}
use Rattle.search.proofs.TotalsAbove.{above_read}
use Rattle.search.proofs.search.trial.Trial.above.Goals as goal

pub returns-then-level-opened : goal.returns-then-level-opened
returns-then-level-opened c =
    let t = c.args.self.now in
    let s = t.search.now in
    let row = c.args.row in
    let low : c.args.level < s.grid.places = omega (arith, c.places.ensures.is) in
    let same : t.part.opened ≡ c.args.level = omega (arith, c.opened.ensures) in
    above_read s.grid t.part row c.args.level low (get_or t.totals.rows c.from-row.result (pos 0))
    (ap (λ r. get_or t.totals.rows r (pos 0)) c.from-row.ensures ∙ t.totalled row (omega (arith, c.requires.row)) ∙ ap (λ l. part_total (chosen_from s) row (drop l (versions_of s.grid.places t.part))) same)

pub returns-else-level-opened : goal.returns-else-level-opened
returns-else-level-opened c =
    let t = c.args.self.now in
    let s = t.search.now in
    let row = c.args.row in
    let d = c.index-self-level.result in
    let low : c.args.level < s.grid.places = omega (arith, c.places.ensures.is) in
    let read = get_or_default s.sums c.args.level d no_sums (omega (arith, low, s.grid.few_places, s.levels)) in
    above_read s.grid t.part row c.args.level low (get_or (get_or s.sums c.args.level d).rows c.from-row.result (pos 0))
    (ap (λ r. get_or (get_or s.sums c.args.level d).rows r (pos 0)) c.from-row.ensures
    ∙ ap (λ x. get_or x.rows row (pos 0)) read
    ∙ t.summed c.args.level (omega (arith, c.requires.open, c.opened.ensures)) (omega (arith, low)) row (omega (arith, c.requires.row)))
