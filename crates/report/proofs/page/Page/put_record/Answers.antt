use Rattle.std.proofs.Common.{◌≡◌, ap, sym, ◌∙◌, subst}
use Rattle.rules.specs.Records.{answered, job_after}
use Rattle.rules.specs.Settings.{setting}
use Rattle.chooser.specs.States.{kept_of}
use Rattle.report.specs.Reports.{call_line, closing_text}
use Rattle.report.specs.Writing.{Puts}
use Rattle.report.proofs.Closings.{closed_said, said, same_said}
use Rattle.report.proofs.Putting.{both_put}
use Rattle.report.proofs.page.Page.put_record.Goals as goal

pub returns-then-was_running-clause-done : goal.returns-then-was_running-clause-done
returns-then-was_running-clause-done g c =
    let job = c.args.job.now in
    let took = c.take-answer.ensures in
    let after = c.take-answer.new.self in
    let m = g.C.Catalogue.meaning job.catalogue in
    let s = job.sheet in
    let q = c.args.call.now.request in
    let same : said (g.C.Catalogue.meaning after.catalogue) after.sheet (kept_of after) ≡ closing_text m s (kept_of job) (job_after (setting m s) (kept_of job) q) =
    same_said (ap g.C.Catalogue.meaning took.catalogue) took.sheet took.job
    ∙ sym (closed_said m s job.running job.opened (job_after (setting m s) (kept_of job) q) (sym c.is_running-was_running.ensures ∙ c.if-was_running.true) (λ f e. ap (λ k. job_after (setting m s) k q) e))
    in
    record {
      answer = ap (answered c.args.call.now) took.answer;
      job_is = took.job;
      text =
          both_put
          (subst (λ n. Puts c.args.self.now (call_line c.args.number n) c.put_call.new.self) took.answer c.put_call.ensures)
          (subst (λ t. Puts c.put_call.new.self t c.put_verdict.new.self) same c.put_verdict.ensures);
    }
