-- What is written for a job that was opened without a fault is its report, whole. Assumes nothing.
use Rattle.std.proofs.Common.{◌≡◌, ℕ, ◌≤◌, leb, List, [], ◌++◌, length, Ok, Err, Result, Some, None, Option, refl, sym, ap, ◌∙◌, subst}
use Rattle.std.proofs.lemmas.Bool.{cond-true, le-leb}
use Rattle.rules.specs.declared.records.CallRecord.{CallRecord}
use Rattle.rules.specs.declared.refusals.Fault.{Fault}
use Rattle.rules.specs.declared.refusals.Refusal.TheVariants.{BufferTooShort, NoCall}
use Rattle.rules.specs.declared.sheets.Sheet.{Sheet}
use Rattle.rules.specs.Catalogues.{Meaning, SoundMeaning}
use Rattle.rules.specs.KeptJobs.{KeptJob, fault_of, opened_with}
use Rattle.rules.specs.Openings.{opening}
use Rattle.rules.specs.Records.{Lawful, all_answered, work_job, work_records}
use Rattle.rules.specs.Refusals.{fault, where_holds}
use Rattle.rules.specs.Settings.{setting}
use Rattle.rules.proofs.Works.{record_law}
use Rattle.report.specs.Answers.{fault_first, report_answer}
use Rattle.report.specs.Reports.{calls_text, job_line, most_reported, report_buffer, report_text}
use Rattle.report.specs.Pages.{fitting}
use Rattle.report.proofs.Fitting.{fitting_all}
use Rattle.report.proofs.ReportLengths.{report_law}

fault_opened : (s : Sheet) (o : Option Fault) → fault_of (opened_with s o) ≡ o
fault_opened s (Some f) = refl
fault_opened s None = refl

module _ (m : Meaning) (w : SoundMeaning m) (s : Sheet) (rs : List CallRecord) where
  -- a job that was opened, with what is told of its fault, and so many records that a report tells of all
  pub record Opened (n : Meaning) (t : Sheet) (k : KeptJob) : Type 0 where
    pub catalogue : n ≡ m
    pub sheet : t ≡ s
    pub job : k ≡ opened_with s (opening m s)
    pub faultless : fault_of k ≡ None
    pub few : length rs ≤ most_reported

  no_fault : {n : Meaning} {t : Sheet} {k : KeptJob} → Opened n t k → opening m s ≡ None
  no_fault h = sym (ap fault_of h.job ∙ fault_opened s (opening m s)) ∙ h.faultless

  -- the records have the answers that are worked out
  pub as_worked : {n : Meaning} {t : Sheet} {k : KeptJob} → Opened n t k → all_answered (setting n t) k rs ≡ work_records m s rs
  as_worked {n} {t} {k} h =
      ap (λ n. all_answered (setting n t) k rs) h.catalogue ∙ ap (λ t. all_answered (setting m t) k rs) h.sheet ∙ ap (λ k. all_answered (setting m s) k rs) h.job

  -- what is promised of them holds
  pub lawful_answers : (answered : List CallRecord) → answered ≡ work_records m s rs → Lawful m s [] answered (work_job m s rs)
  lawful_answers answered e =
      subst (λ xs. Lawful m s [] xs (work_job m s rs)) (sym e) ((record_law m w s).carries [] (opened_with s (opening m s)) (record_law m w s).opens rs).0

  -- what is written is the report
  pub whole_text : {n : Meaning} {t : Sheet} {k : KeptJob} (written : List ℕ) → Opened n t k → written ≡ fitting (job_line s ++ calls_text n t k 1 rs) → written ≡ report_text m s rs
  whole_text {n} {t} {k} written h e =
      e
      ∙ ap (λ n. fitting (job_line s ++ calls_text n t k 1 rs)) h.catalogue
      ∙ ap (λ t. fitting (job_line s ++ calls_text m t k 1 rs)) h.sheet
      ∙ ap (λ k. fitting (job_line s ++ calls_text m s k 1 rs)) h.job
      ∙ fitting_all (report_text m s rs) (report_law m w s (no_fault h) rs h.few)

  -- the length of the report is answered
  pub length_answered : {n : Meaning} {t : Sheet} {k : KeptJob} (written buffer : List ℕ) → Opened n t k → report_buffer ≤ length buffer → written ≡ report_text m s rs → Ok (length written) ≡ report_answer m s rs buffer
  length_answered written buffer h enough e =
      let answer : Result ℕ Fault = Ok (length (report_text m s rs)) in
      let counted : Result ℕ Fault = where_holds (leb (length rs) most_reported) (fault NoCall) answer in
      ap (λ xs. Ok (length xs)) e
      ∙ sym (ap (λ o. fault_first o (where_holds (leb report_buffer (length buffer)) (fault BufferTooShort) counted)) (no_fault h)
      ∙ cond-true (leb report_buffer (length buffer)) counted (Err (fault BufferTooShort)) (le-leb report_buffer (length buffer) enough)
      ∙ cond-true (leb (length rs) most_reported) answer (Err (fault NoCall)) (le-leb (length rs) most_reported h.few))
