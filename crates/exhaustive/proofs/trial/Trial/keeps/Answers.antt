use Rattle.std.proofs.Common.{rules}
use Rattle.rules.proofs.Ranges.{all_over}
use Rattle.exhaustive.specs.Trials.{guarded, row_kept}
use Rattle.exhaustive.proofs.Counted.{all_counted}
use Rattle.exhaustive.proofs.trial.Trial.keeps.Goals as goal

pub returns : goal.returns
returns g c =
    let t = c.args.self.now in
    let kept = row_kept (guarded (g.C.Catalogue.meaning t.catalogue.now)) t.sheet.now t.versions in
    all_counted t.sheet.now.last_row kept _
    (all_over _ _ _ 0 t.sheet.now.last_row kept _ c.new.ensures.start c.new.ensures.end c.new.ensures.exhausted (λ k b f h. search rules) c.all.ensures.runs)
