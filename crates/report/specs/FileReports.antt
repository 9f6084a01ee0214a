-- What is answered where the report of a job file is asked for, and what is promised of it. Assumes nothing.
use Rattle.std.specs.Prelude.{◌≡◌, ℕ, ◌<◌, ◌≤◌, List, [], ◌++◌, map, length, drop, Ok, Err, Result}
use Rattle.rules.specs.declared.records.CallRecord.{CallRecord}
use Rattle.rules.specs.declared.records.Request.{Request}
use Rattle.rules.specs.declared.refusals.Fault.{Fault}
use Rattle.rules.specs.declared.refusals.Refusal.TheVariants.{BufferTooShort}
use Rattle.rules.specs.Refusals.{fault}
use Rattle.rules.specs.Records.{Lawful, work_records, work_job}
use Rattle.jobfile.specs.Opened.{stated_meaning, stated_sheet}
use Rattle.jobfile.specs.Refusing.{Refused}
use Rattle.jobfile.specs.Stated.{Stated}
use Rattle.jobfile.specs.Validity.{States}
use Rattle.report.specs.Buffers.{buffer_after, write_answer}
use Rattle.report.specs.Reports.{report_buffer, report_text}

-- Calls as records that have no answers yet.
abbrev pub unanswered : List Request → List CallRecord
unanswered qs = map (λ q. record { request = q; answer = 0 }) qs

-- The report of a stated job: that of its sheet, its catalogue and its calls.
abbrev pub stated_report : Stated → List ℕ
stated_report j = report_text (stated_meaning j) (stated_sheet j) (unanswered j.calls)

-- What is answered where the report of what a file is read as is to be written into a buffer: the fault of the file comes before that of the buffer.
abbrev pub file_answer : Result Stated Fault → List ℕ → Result ℕ Fault
file_answer (Err f) buffer = Err f
file_answer (Ok j) buffer = write_answer report_buffer (stated_report j) buffer

-- What the buffer holds then.
abbrev pub file_buffer : Result Stated Fault → List ℕ → List ℕ
file_buffer (Err f) buffer = buffer
file_buffer (Ok j) buffer = buffer_after report_buffer (stated_report j) buffer

-- The file states a job, the report of that job stands at the front of a buffer, and what is promised of the answers to its calls holds.
pub record FileReported (file buffer : List ℕ) (n : ℕ) (written : List ℕ) : Type 0 where
  pub job : Stated
  pub states : States file job
  pub fits : n ≤ report_buffer
  pub length_is : n ≡ length (stated_report job)
  pub text : written ≡ stated_report job ++ drop n buffer
  pub lawful :
      let m = stated_meaning job in
      let s = stated_sheet job in
      let calls = unanswered job.calls in
      Lawful m s [] (work_records m s calls) (work_job m s calls)

-- Why no report of a file is written.
pub data NoReport (file buffer : List ℕ) : Fault → Type 0 where
  -- the file meets a refusal
  file_refused : {f : Fault} → Refused file f → NoReport file buffer f
  -- the file states a job, and the buffer is too short
  too_short : (j : Stated) → States file j → length buffer < report_buffer → NoReport file buffer (fault BufferTooShort)

-- No report of a file is written, and the buffer stays.
pub record NotReported (file buffer : List ℕ) (f : Fault) (written : List ℕ) : Type 0 where
  pub why : NoReport file buffer f
  pub buffer_stays : written ≡ buffer
