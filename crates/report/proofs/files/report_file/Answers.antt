use Rattle.std.proofs.Common.{Err, refl, ap, ◌∙◌}
use Rattle.std.proofs.lemmas.Result.{err_from_is_err_and}
use Rattle.report.specs.FileReports.{file_answer, file_buffer, file_refused, unanswered}
use Rattle.report.proofs.FileAnswers.{file_answered, file_reported, file_written}
use Rattle.report.proofs.files.report_file.Goals as goal

pub returns-in_err-sheet-clause-told : goal.returns-in_err-sheet-clause-told
returns-in_err-sheet-clause-told c =
    let p = err_from_is_err_and c.from_residual.result c.from_residual.ensures.1 in
    p.1 ∙ ap Err p.2 ∙ ap (λ o. file_answer o c.args.out.now) c.in_err-sheet.ensures.job

pub returns-in_err-sheet-clause-written : goal.returns-in_err-sheet-clause-written
returns-in_err-sheet-clause-written c = ap (λ o. file_buffer o c.args.out.now) c.in_err-sheet.ensures.job

pub returns-in_err-sheet-clause-done : goal.returns-in_err-sheet-clause-done
returns-in_err-sheet-clause-done c =
    let p = err_from_is_err_and c.from_residual.result c.from_residual.ensures.1 in
    rw (p.1, p.2) (record { why = file_refused ((c.in_err-sheet.ensures.right.refused c.in_err-sheet.field-0.0).0 refl); buffer_stays = refl })

pub returns-clause-told : goal.returns-clause-told
returns-clause-told c =
    let read = c.in_ok-sheet.ensures in
    let records = c.as_mut_slice.ensures.value ∙ c.unanswered-records.ensures ∙ ap unanswered c.list.ensures in
    file_answered c.args.file.now c.args.out.now c.in_ok-sheet.field-0 read.job read.right _ c.as_mut_slice.result.now c.catalogue-catalogue.ensures records c.report.result c.report.ensures.told

pub returns-clause-written : goal.returns-clause-written
returns-clause-written c =
    let read = c.in_ok-sheet.ensures in
    let records = c.as_mut_slice.ensures.value ∙ c.unanswered-records.ensures ∙ ap unanswered c.list.ensures in
    file_written c.args.file.now c.args.out.now c.in_ok-sheet.field-0 read.job read.right _ c.as_mut_slice.result.now c.catalogue-catalogue.ensures records c.report.result c.report.ensures.told _ c.report.new.out c.report.ensures.done

pub returns-clause-done : goal.returns-clause-done
returns-clause-done c =
    let read = c.in_ok-sheet.ensures in
    let records = c.as_mut_slice.ensures.value ∙ c.unanswered-records.ensures ∙ ap unanswered c.list.ensures in
    file_reported c.args.file.now c.args.out.now c.in_ok-sheet.field-0 read.job read.right _ c.as_mut_slice.result.now c.catalogue-catalogue.ensures records c.report.result c.report.ensures.told _ c.report.new.out c.report.ensures.done
