use Rattle.std.proofs.Common.{Ok, ap, sym, ◌∙◌}
use Rattle.rules.specs.Settings.{setting}
use Rattle.chooser.specs.Models.{made_told}
use Rattle.chooser.specs.States.{kept_of}
use Rattle.chooser.proofs.Budgets.{run_tells}
use Rattle.chooser.proofs.running.RunningJob.run.Goals as goal

pub unreachable-requires : goal.unreachable-requires
unreachable-requires g c =
    let j = c.args.self.now.job in
    run_tells (setting (g.C.Catalogue.meaning j.catalogue) j.sheet) (kept_of j) _ (sym (ap (λ m. made_told (Ok m)) c.in-Done.is) ∙ c.in_ok-ran.ensures.told)
