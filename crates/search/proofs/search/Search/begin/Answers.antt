use Rattle.std.proofs.Common.{◌≡◌, ◌-◌, ◌<◌, set, ap, ap₂, ◌∙◌, arith}
use Rattle.rules.specs.Bounds.{most_places}
use Rattle.rules.specs.Search.{start}
use Rattle.ledger.specs.Model.{held}
use Rattle.search.specs.Settings.{setting}
use Rattle.search.specs.States.{limits_of}
use Rattle.search.proofs.Parts.{still_ones, ones_set}
use Rattle.search.proofs.Running.{begun}
use Rattle.search.proofs.search.Search.begin.Goals as goal

pub loop-index-preserved : goal.loop-index-preserved
loop-index-preserved c =
    let inv = c.loop-index.invariant in
    let i = c.loop-index.index - 1 in
    let low : i < most_places = omega (arith, inv.low, c.loop-index.self.grid.few_places) in
    let kept = c.set.ensures.kept in
    record {
      versions = c.set.ensures.versions ∙ ap (λ vs. set vs i 1) inv.versions ∙ still_ones most_places i low;
      opened = c.set.ensures.opened;
      kept = ((kept.0.0 ∙ inv.kept.0.0, kept.0.1 ∙ inv.kept.0.1), kept.1 ∙ inv.kept.1, kept.2 ∙ inv.kept.2, kept.3 ∙ inv.kept.3, kept.4 ∙ inv.kept.4);
      low = rw kept.0.0 (omega (arith, inv.low));
    }

pub returns-clause-state : goal.returns-clause-state
returns-clause-state c =
    let s = c.loop-index.self in
    let inv = c.loop-index.invariant in
    let none : s.part.opened ≡ 0 = omega (arith, inv.opened) in
    let ones = ones_set s s.part inv.versions none in
    let a = c.open_all.ensures in
    let t = c.open_all.new.self in
    begun s t inv.kept a.rest a.cap ones
    ∙ ap₂ (λ g l. start (setting g) (limits_of l) (held t.ledger)) a.kept.0 a.kept.1
    ∙ ap (λ l. start (setting c.args.self.now.grid) (limits_of c.args.self.now.limits) (held l)) a.ledger
