use Rattle.std.proofs.Common.{◌≡◌, refl, ap, ◌∙◌, subst, arith}
use Rattle.rules.specs.Records.{all_answered, closed_job}
use Rattle.rules.specs.Settings.{setting}
use Rattle.chooser.specs.States.{kept_of}
use Rattle.report.specs.Reports.{calls_text, closing_text}
use Rattle.report.specs.Writing.{Puts}
use Rattle.report.proofs.CallLoops.{all_written, none_written, one_more_written, recorded_same}
use Rattle.report.proofs.page.Page.put_calls.Given.{Over}
use Rattle.report.proofs.page.Page.put_calls.Goals as goal

pub loop-index-init : goal.loop-index-init
loop-index-init g c = record { sheet = refl; catalogue = refl; along = none_written _ _ _ _ _ }

pub loop-index-preserved : goal.loop-index-preserved
loop-index-preserved g c =
    let l = c.loop-index in
    let o = c.put_record.ensures in
    let first = c.args.job in
    record {
      sheet = o.sheet ∙ l.invariant.sheet;
      catalogue = o.catalogue ∙ l.invariant.catalogue;
      along =
          one_more_written (g.C.Catalogue.meaning first.catalogue) first.sheet (kept_of first) c.args.records.now c.args.self.now (kept_of l.job) (kept_of c.put_record.new.job) l.index l.records _ c.put_record.new.call l.self c.put_record.new.self
          (omega arith) l.invariant.along (recorded_same (ap g.C.Catalogue.meaning l.invariant.catalogue) l.invariant.sheet o.done);
    }

ended : (g : Over) (c : goal.After-put_end g) → (c.loop-index.records ≡ all_answered (setting (g.C.Catalogue.meaning c.args.job.catalogue) c.args.job.sheet) (kept_of c.args.job) c.args.records.now) × Puts c.args.self.now (calls_text (g.C.Catalogue.meaning c.args.job.catalogue) c.args.job.sheet (kept_of c.args.job) 1 c.args.records.now) c.put_end.new.self
ended g c =
    let l = c.loop-index in
    let first = c.args.job in
    let m = g.C.Catalogue.meaning first.catalogue in
    all_written m first.sheet (kept_of first) c.args.records.now c.args.self.now (kept_of l.job) l.index l.records l.self c.put_end.new.self (omega arith) l.invariant.along
    (subst (λ s. Puts l.self (closing_text m s (kept_of l.job) (closed_job (setting m s) (kept_of l.job))) c.put_end.new.self) l.invariant.sheet
    (subst (λ d. Puts l.self (closing_text (g.C.Catalogue.meaning d) l.job.sheet (kept_of l.job) (closed_job (setting (g.C.Catalogue.meaning d) l.job.sheet) (kept_of l.job))) c.put_end.new.self) l.invariant.catalogue c.put_end.ensures))

pub returns-clause-records : goal.returns-clause-records
returns-clause-records g c = (ended g c).0

pub returns-clause-text : goal.returns-clause-text
returns-clause-text g c = (ended g c).1
