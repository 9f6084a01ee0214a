use Rattle.std.proofs.Common.{List, ℤ, sym, refl, ap, ◌∙◌, arith}
use Rattle.rules.specs.Calls.{Reply, Ran, run_reply, running}
use Rattle.ledger.specs.Model.{held}
use Rattle.search.specs.Findings.{all_shaped}
use Rattle.search.specs.declared.grid.Grid.{Grid}
use Rattle.search.specs.States.{chosen_from, job_limits, limits_of, state_of}
use Rattle.search.proofs.GroundShapes.{still_shaped}
use Rattle.search.proofs.Running.{run_beyond, run_within}
use Rattle.search.proofs.search.Search.run.Goals as goal

pub returns-then-saturating_add-gt-MOST_STEPS : goal.returns-then-saturating_add-gt-MOST_STEPS
returns-then-saturating_add-gt-MOST_STEPS c =
    let s = c.args.self.now in
    let is = run_beyond (chosen_from s) (job_limits s) (state_of s) c.args.budget (omega arith) in
    record { answer = sym (ap (λ (r : Reply). r.answer) is); job = sym (ap (λ (r : Reply). r.job) is); kept = (refl, refl); shaped = λ h. h }

pub returns : goal.returns
returns c =
    let s = c.args.self.now in
    let t = c.run_on.new.self in
    let is = run_within (chosen_from s) (job_limits s) (state_of s) c.args.budget (omega arith) in
    let ran = c.run_on.ensures.ran in
    let kept = c.run_on.ensures.kept in
    record {
      answer = ap (λ (r : Ran). (run_reply (job_limits s) r).answer) ran ∙ sym (ap (λ (r : Reply). r.answer) is);
      job = ap (λ (l : List ℤ). running (limits_of l) (state_of t)) kept.1 ∙ ap (λ (r : Ran). (run_reply (job_limits s) r).job) ran ∙ sym (ap (λ (r : Reply). r.job) is);
      kept = kept;
      shaped = λ h.
          ap (λ (g : Grid). all_shaped g.places (held t.ledger)) kept.0 ∙ ap (λ (r : Ran). all_shaped s.grid.places r.state.learned) ran ∙ still_shaped s h c.args.budget;
    }
