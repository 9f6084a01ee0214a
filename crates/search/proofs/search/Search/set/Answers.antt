use Rattle.std.proofs.Common.{take, drop, length-set, ap₂, ◌∙◌, arith}
use Rattle.search.proofs.Parts.{put_on}
use Rattle.search.proofs.TotalsAbove.{summed_with}
use Rattle.search.proofs.search.Search.set.Goals as goal

pub invariant_of-self : goal.invariant_of-self
invariant_of-self c =
    let s = c.args.self.now in
    let p = c.args.pick in
    let q = c.with-self.result in
    let put = summed_with s.grid s.part q p.index p.version c.with-self.ensures.versions s.part.opened s.sums s.summed c.requires.next c.requires.there (omega (arith, s.levels, s.grid.few_places, c.requires.there)) c.sums_with.result c.sums_with.ensures in
    record {
      within = omega (arith, c.with-self.ensures.opened, c.requires.there);
      all_rows = s.all_rows;
      levels = length-set s.sums p.index c.sums_with.result ∙ s.levels;
      summed = λ level from to. put level (omega (arith, c.with-self.ensures.opened, from)) to;
    }

pub returns-clause-part : goal.returns-clause-part
returns-clause-part c =
    let s = c.args.self.now in
    let p = c.args.pick in
    ap₂ (λ i vs. drop i (take s.grid.places vs)) c.with-self.ensures.opened c.with-self.ensures.versions
    ∙ put_on s.part.versions s.grid.places p.index p.version c.requires.there (omega (arith, s.part.long, s.grid.few_places))
