-- What is answered of a file that states a job, and what the buffer holds then. Assumes nothing.
use Rattle.std.proofs.Common.{◌≡◌, ℕ, Bool, true, false, cond, leb, List, ◌++◌, drop, length, MatchResult, Ok, Err, Result, refl, ap, ◌∙◌, subst, arith}
use Rattle.std.proofs.lemmas.Bool.{cond-true, leb-false, le-leb}
use Rattle.std.proofs.lemmas.List.{length-map}
use Rattle.rules.specs.declared.records.CallRecord.{CallRecord}
use Rattle.rules.specs.declared.refusals.Fault.{Fault}
use Rattle.rules.specs.declared.refusals.Refusal.TheVariants.{BufferTooShort, NoCall}
use Rattle.rules.specs.Catalogues.{Meaning}
use Rattle.rules.specs.Refusals.{fault, where_holds}
use Rattle.jobfile.specs.declared.job.Job.{Job}
use Rattle.jobfile.specs.Jobs.{RightlyRead, job_meaning, says, stated_by}
use Rattle.jobfile.specs.Opened.{stated_meaning, stated_sheet}
use Rattle.jobfile.specs.Reading.{read}
use Rattle.jobfile.specs.Stated.{Stated}
use Rattle.jobfile.specs.Validity.{States}
use Rattle.jobfile.proofs.OpensWell.{opens_law}
use Rattle.report.specs.Answers.{Reported, Unaltered, fault_first, report_answer}
use Rattle.report.specs.Buffers.{buffer_after, write_answer}
use Rattle.report.specs.FileReports.{FileReported, NoReport, NotReported, file_answer, file_buffer, stated_report, too_short, unanswered}
use Rattle.report.specs.Reports.{most_reported, report_buffer, report_text}
use Rattle.report.proofs.FileJobs.{alike}
use Rattle.report.proofs.Reporting.{lawful_answers}
use Rattle.report.proofs.SameReports.{report_same}

-- what is answered, and what the buffer holds, by whether it is long enough
module _ (text buffer : List ℕ) where
  abbrev Told : Bool → Result ℕ Fault → Type 0
  Told enough r =
      MatchResult r (λ n. (n ≡ length text) × (text ++ drop n buffer ≡ cond enough (text ++ drop (length text) buffer) buffer)) (λ f. (fault BufferTooShort ≡ f) × (enough ≡ false) × (buffer ≡ cond enough (text ++ drop (length text) buffer) buffer))

  told : (enough : Bool) (r : Result ℕ Fault) → r ≡ where_holds enough (fault BufferTooShort) (Ok (length text)) → Told enough r
  told true (Ok n) e = let same : n ≡ length text = cc in (same, ap (λ k. text ++ drop k buffer) same)
  told true (Err f) e = absurd (cc)
  told false (Ok n) e = absurd (cc)
  told false (Err f) e = let same : fault BufferTooShort ≡ f = cc in (same, refl, refl)

module _ (file buffer : List ℕ) (j : Job) (is : says file (Ok j) ≡ read file) (right : RightlyRead file (Ok j)) where
  abbrev t : Stated
  t = stated_by file j

  abbrev records : List CallRecord
  records = unanswered t.calls

  -- there is space in the buffer
  abbrev enough : Bool
  enough = leb report_buffer (length buffer)

  states : States file t
  states = (right.accepted t).0 refl

  text_is : report_text (job_meaning file j) j.sheet records ≡ stated_report t
  text_is =
      let opens = opens_law t states.0 in
      report_same _ _ _ _ (alike file j states.0 right.catalogue right.tables) opens.0 opens.1 records

  -- only the buffer can be too short
  answer_is : report_answer (job_meaning file j) j.sheet records buffer ≡ write_answer report_buffer (stated_report t) buffer
  answer_is =
      let counted_calls : length records ≡ length t.calls = length-map {B = CallRecord} t.calls (λ q. record { request = q; answer = 0 }) in
      let few : leb (length records) most_reported ≡ true = le-leb _ _ (omega (arith, states.0.few_calls, counted_calls)) in
      let answer : List ℕ → Result ℕ Fault = λ text. Ok (length text) in
      let text = report_text (job_meaning file j) j.sheet records in
      let counted : Result ℕ Fault = where_holds (leb (length records) most_reported) (fault NoCall) (answer text) in
      ap (λ o. fault_first o (where_holds enough (fault BufferTooShort) counted)) (alike file j states.0 right.catalogue right.tables).opens
      ∙ ap (λ r. where_holds enough (fault BufferTooShort) r) (cond-true (leb (length records) most_reported) (answer text) (Err (fault NoCall)) few)
      ∙ ap (λ text. where_holds enough (fault BufferTooShort) (answer text)) text_is

  -- with the catalogue and the records as code has them
  module _ (m : Meaning) (rs : List CallRecord) (meaning_is : m ≡ job_meaning file j) (records_are : rs ≡ records) (r : Result ℕ Fault) (answered : r ≡ report_answer m j.sheet rs buffer) where
    answer_told : r ≡ write_answer report_buffer (stated_report t) buffer
    answer_told = answered ∙ ap (λ m. report_answer m j.sheet rs buffer) meaning_is ∙ ap (λ rs. report_answer (job_meaning file j) j.sheet rs buffer) records_are ∙ answer_is

    pub file_answered : r ≡ file_answer (read file) buffer
    file_answered = answer_told ∙ ap (λ o. file_answer o buffer) is

    module _ (after : List CallRecord) (written : List ℕ) where
      abbrev Done : Result ℕ Fault → Type 0
      Done r = MatchResult r (λ n. Reported m j.sheet rs buffer n after written) (λ f. Unaltered rs buffer after written)

      text_there : (n : ℕ) → Reported m j.sheet rs buffer n after written → written ≡ stated_report t ++ drop n buffer
      text_there n h =
          h.text
          ∙ ap (λ xs. xs ++ drop n buffer) (ap (λ m. report_text m j.sheet rs) meaning_is ∙ ap (λ rs. report_text (job_meaning file j) j.sheet rs) records_are ∙ text_is)

      written_by : (r : Result ℕ Fault) → Told (stated_report t) buffer enough r → Done r → written ≡ buffer_after report_buffer (stated_report t) buffer
      written_by (Ok n) h d = text_there n d ∙ h.1
      written_by (Err f) h d = d.buffer_stays ∙ h.2

      pub file_written : Done r → written ≡ file_buffer (read file) buffer
      file_written d = written_by r (told (stated_report t) buffer enough r answer_told) d ∙ ap (λ o. file_buffer o buffer) is

      reported_by : (r : Result ℕ Fault) → Told (stated_report t) buffer enough r → Done r → MatchResult r (λ n. FileReported file buffer n written) (λ f. NotReported file buffer f written)
      reported_by (Ok n) h d =
          record {
            job = t;
            states = states;
            fits = d.fits;
            length_is = h.0;
            text = text_there n d;
            lawful = lawful_answers (stated_meaning t) (opens_law t states.0).0 (stated_sheet t) records _ refl;
          }
      reported_by (Err f) h d =
          record { why = subst (NoReport file buffer) h.0 (too_short t states (leb-false _ _ h.1)); buffer_stays = d.buffer_stays }

      pub file_reported : Done r → MatchResult r (λ n. FileReported file buffer n written) (λ f. NotReported file buffer f written)
      file_reported d = reported_by r (told (stated_report t) buffer enough r answer_told) d
