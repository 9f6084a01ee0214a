use Rattle.std.proofs.Common.{◌++◌, ap, ◌∙◌}
use Rattle.chooser.specs.States.{kept_of}
use Rattle.report.specs.Reports.{calls_text, job_line}
use Rattle.report.specs.Pages.{fitting}
use Rattle.report.proofs.Putting.{both_put}
use Rattle.report.proofs.reports.page_of.Goals as goal

pub returns-clause-text : goal.returns-clause-text
returns-clause-text g c =
    let j = c.args.job in
    (both_put c.put_job.ensures c.put_calls.ensures.text).text_is
    ∙ ap (λ xs. fitting (xs ++ (job_line c.args.sheet.now ++ calls_text (g.C.Catalogue.meaning j.catalogue) j.sheet (kept_of j) 1 c.args.records.now))) c.blank-page.ensures
