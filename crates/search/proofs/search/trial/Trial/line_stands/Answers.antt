use Rattle.std.proofs.Common.{◌≤◌, drop, sym, ap, ◌∙◌, arith}
use Rattle.search.specs.Parts.{versions_of}
use Rattle.search.specs.Sums.{joined_onto, total_above}
use Rattle.search.specs.States.{chosen_from, force}
use Rattle.search.proofs.Parts.{whole_of}
use Rattle.search.proofs.Aboves.{line_on}
use Rattle.search.proofs.TotalsAbove.{joined_is, above_small}
use Rattle.search.proofs.search.trial.Trial.line_stands.Goals as goal

pub breaks_limit-requires : goal.breaks_limit-requires
breaks_limit-requires c =
    let t = c.args.self.now in
    let l = c.args.near.line in
    rw (c.above.ensures, c.from-level.ensures) (above_small t.search.now.grid t.part l.row l.level)

pub returns-then-opened-level : goal.returns-then-opened-level
returns-then-opened-level c =
    let s = c.args.self.now.search.now in
    let p = c.args.self.now.part in
    let l = c.args.near.line in
    let S = chosen_from s in
    let J = S.joining l.row in
    let above = c.above.ensures ∙ ap (λ n. total_above S l.row (drop n (versions_of s.grid.places p))) c.from-level.ensures in
    let low : p.opened ≤ l.level = omega (arith, c.opened.ensures, c.from-level.ensures) in
    c.breaks_limit.ensures
    ∙ ap (λ a. J.worse (joined_onto J l.constant a) (force s l.row)) above
    ∙ ap (λ z. J.worse z (force s l.row)) (joined_is s.grid p l.row l.level l.constant)
    ∙ sym (line_on S (versions_of s.grid.places p) (whole_of s p) (force s) l p.opened (omega (arith, whole_of s p, c.args.self.now.within)) low)
