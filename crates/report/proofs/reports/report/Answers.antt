use Rattle.std.proofs.Common.{◌≡◌, ◌++◌, drop, length, ap, sym, subst, ◌∙◌}
use Rattle.rules.specs.Records.{work_records}
use Rattle.chooser.specs.States.{kept_of}
use Rattle.report.specs.Reports.{report_text}
use Rattle.report.proofs.Reporting.{Opened, as_worked, lawful_answers, length_answered, whole_text}
use Rattle.report.proofs.reports.report.Goals as goal

pub returns-clause-told : goal.returns-clause-told
returns-clause-told g c =
    let m = g.C.Catalogue.meaning c.args.catalogue in
    let w = g.met.C.Catalogue.sound c.args.catalogue in
    let s = c.args.sheet in
    let rs = c.args.records.now in
    let job = c.open-job.result.job in
    let o = c.open-job.ensures in
    let opened : Opened m w s rs (g.C.Catalogue.meaning job.catalogue) job.sheet (kept_of job) =
    record { catalogue = ap g.C.Catalogue.meaning o.catalogue; sheet = o.sheet; job = o.job; faultless = sym c.fault.ensures ∙ c.in_default.is; few = c.if-records-gt-MOST_REPORTED.false }
    in
    let lent = subst (λ k. Opened m w s rs (g.C.Catalogue.meaning k.catalogue) k.sheet (kept_of k)) (sym c.into_job.ensures) opened in
    length_answered m w s rs c.text-text.result.now c.args.out.now opened c.if-out-lt-REPORT_BUFFER.false (c.text-text.ensures.text ∙ whole_text m w s rs c.page_of-page.result.bytes.items lent c.page_of-page.ensures.text)

pub returns-clause-done : goal.returns-clause-done
returns-clause-done g c =
    let m = g.C.Catalogue.meaning c.args.catalogue in
    let w = g.met.C.Catalogue.sound c.args.catalogue in
    let s = c.args.sheet in
    let rs = c.args.records.now in
    let job = c.open-job.result.job in
    let o = c.open-job.ensures in
    let page = c.page_of-page in
    let opened : Opened m w s rs (g.C.Catalogue.meaning job.catalogue) job.sheet (kept_of job) =
    record { catalogue = ap g.C.Catalogue.meaning o.catalogue; sheet = o.sheet; job = o.job; faultless = sym c.fault.ensures ∙ c.in_default.is; few = c.if-records-gt-MOST_REPORTED.false }
    in
    let lent = subst (λ k. Opened m w s rs (g.C.Catalogue.meaning k.catalogue) k.sheet (kept_of k)) (sym c.into_job.ensures) opened in
    let answers : page.new.records ≡ work_records m s rs = page.ensures.records ∙ as_worked m w s rs lent in
    let text : page.result.bytes.items ≡ report_text m s rs = whole_text m w s rs page.result.bytes.items lent page.ensures.text in
    record {
      fits = c.text-text.ensures.fits;
      text = ap (λ xs. xs ++ drop (length c.text-text.result.now) c.args.out.now) (c.copy_from_slice.ensures.after ∙ c.text-text.ensures.text ∙ text);
      answers = answers;
      lawful = lawful_answers m w s rs page.new.records answers;
    }
