use Rattle.std.proofs.Common.{◌≡◌, pos, slice_index_or, refl, ap, ap₂, ◌∙◌, arith}
use Rattle.rules.specs.declared.records.CallRecord.{CallRecord}
use Rattle.rules.specs.Grounds.{Setting}
use Rattle.rules.specs.Settings.{setting}
use Rattle.rules.specs.Records.{answer_to, closed_job, job_after}
use Rattle.chooser.specs.States.{kept_of}
use Rattle.chooser.proofs.Plays.{none_yet, one_more, all_done, lawful}
use Rattle.chooser.proofs.closed.ClosedJob.play.Goals as goal

pub loop-record-init : goal.loop-record-init
loop-record-init g c =
    let j = c.args.self.job in
    record { same_sheet = refl; same_catalogue = refl; underway = none_yet (setting (g.C.Catalogue.meaning j.catalogue) j.sheet) (kept_of j) c.args.records.now }

pub loop-record-preserved : goal.loop-record-preserved
loop-record-preserved g c =
    let j = c.args.self.job in
    let l = c.loop-record in
    let took = c.take-record.ensures in
    let blank : CallRecord = record { request = record { code = 0; row = 0; number = pos 0 }; answer = 0 } in
    let r = slice_index_or l.records l.record-index blank in
    let here : setting (g.C.Catalogue.meaning l.job.catalogue) l.job.sheet ≡ setting (g.C.Catalogue.meaning j.catalogue) j.sheet = ap₂ (λ x s. setting (g.C.Catalogue.meaning x) s) l.invariant.same_catalogue l.invariant.same_sheet in
    record {
      same_sheet = took.sheet ∙ l.invariant.same_sheet;
      same_catalogue = took.catalogue ∙ l.invariant.same_catalogue;
      underway =
          one_more (setting (g.C.Catalogue.meaning j.catalogue) j.sheet) (kept_of j) c.args.records.now l.record-index l.records (kept_of l.job) blank (omega arith) l.invariant.underway c.take-record.result (kept_of c.take-record.new.self)
          (took.answer ∙ ap (λ (S : Setting). answer_to S (kept_of l.job) r.request) here) (took.job ∙ ap (λ (S : Setting). job_after S (kept_of l.job) r.request) here);
    }

pub returns : goal.returns
returns g c =
    let j = c.args.self.job in
    let m = g.C.Catalogue.meaning j.catalogue in
    let l = c.loop-record in
    let here : setting (g.C.Catalogue.meaning l.job.catalogue) l.job.sheet ≡ setting m j.sheet = ap₂ (λ x s. setting (g.C.Catalogue.meaning x) s) l.invariant.same_catalogue l.invariant.same_sheet in
    let done = all_done (setting m j.sheet) (kept_of j) c.args.records.now l.record-index l.records (kept_of l.job) (omega arith) l.invariant.underway in
    let job = c.closed.ensures.job ∙ ap (λ (S : Setting). closed_job S (kept_of l.job)) here ∙ done.1 in
    record {
      records = done.0;
      job = job;
      sheet = c.closed.ensures.sheet ∙ l.invariant.same_sheet;
      catalogue = c.closed.ensures.catalogue ∙ l.invariant.same_catalogue;
      lawful = λ before came. lawful m (g.met.C.Catalogue.sound j.catalogue) j.sheet before (kept_of j) c.args.records.now l.records (kept_of c.closed.result.job) done.0 job came;
    }
