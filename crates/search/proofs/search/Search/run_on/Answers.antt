use Rattle.std.proofs.Common.{◌<◌, ap, ◌∙◌, arith}
use Rattle.rules.specs.Search.{stepped}
use Rattle.search.specs.States.{state_of}
use Rattle.search.proofs.Running.{run_more}
use Rattle.search.proofs.search.Search.run_on.Goals as goal

pub loop-step-preserved : goal.loop-step-preserved
loop-step-preserved c =
    let s = c.loop-step.self in
    let inv = c.loop-step.invariant in
    let made = c.make.ensures in
    let low : c.loop-step.made < c.args.budget = omega (arith, inv.within) in
    record {
      within = omega arith;
      few = omega (arith, made.count, inv.few);
      kept = (made.kept.0 ∙ inv.kept.0, made.kept.1 ∙ inv.kept.1);
      ran = run_more c.args.self.now s c.args.budget c.loop-step.made inv.kept inv.ran (state_of c.make.new.self) (ap stepped made.state ∙ c.in-Makes-2.ensures.outcome) low;
    }
