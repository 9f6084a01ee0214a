-- What is answered where a report is asked for, and what is promised of it. Assumes nothing.
use Rattle.std.specs.Prelude.{◌≡◌, ℕ, ◌≤◌, List, [], ◌++◌, length, drop, Ok, Err, Result, Some, None, Option, nat_le}
use Rattle.rules.specs.declared.records.CallRecord.{CallRecord}
use Rattle.rules.specs.declared.refusals.Fault.{Fault}
use Rattle.rules.specs.declared.refusals.Refusal.TheVariants.{BufferTooShort, NoCall}
use Rattle.rules.specs.declared.sheets.Sheet.{Sheet}
use Rattle.rules.specs.Catalogues.{Meaning}
use Rattle.rules.specs.Refusals.{fault, where_holds}
use Rattle.rules.specs.Openings.{opening}
use Rattle.rules.specs.Records.{Lawful, work_records, work_job}
use Rattle.report.specs.Reports.{report_buffer, most_reported, report_text}

-- A fault, if there is one, and else what follows.
abbrev pub fault_first : {X : Type 0} → Option Fault → Result X Fault → Result X Fault
fault_first (Some f) r = Err f
fault_first None r = r

-- What is answered where the report of a sheet, a catalogue and call records is to be written into a buffer: the fault of the opening, or that the buffer is too short, or that there are too many records, or else the length of the report.
abbrev pub report_answer : Meaning → Sheet → List CallRecord → List ℕ → Result ℕ Fault
report_answer m s rs buffer =
    fault_first (opening m s)
    (where_holds (nat_le report_buffer (length buffer)) (fault BufferTooShort)
    (where_holds (nat_le (length rs) most_reported) (fault NoCall)
    (Ok (length (report_text m s rs)))))

-- The report of call records stands at the front of a buffer, and the bytes after it are as before; the records have their answers, and what is promised of those holds.
pub record Reported (m : Meaning) (s : Sheet) (records : List CallRecord) (buffer : List ℕ) (n : ℕ) (answered : List CallRecord) (written : List ℕ) : Type 0 where
  pub fits : n ≤ report_buffer
  pub text : written ≡ report_text m s records ++ drop n buffer
  pub answers : answered ≡ work_records m s records
  pub lawful : Lawful m s [] answered (work_job m s records)

-- Neither the records nor the buffer are altered.
pub record Unaltered (records : List CallRecord) (buffer : List ℕ) (left : List CallRecord) (bytes : List ℕ) : Type 0 where
  pub records_stay : left ≡ records
  pub buffer_stays : bytes ≡ buffer
