-- The theorem on reports; it is the contract of a function. Assumes nothing.
use Rattle.std.specs.Prelude.{◌≡◌, ◌≤◌, List, length, None}
use Rattle.rules.specs.declared.records.CallRecord.{CallRecord}
use Rattle.rules.specs.declared.sheets.Sheet.{Sheet}
use Rattle.rules.specs.Catalogues.{Meaning, SoundMeaning}
use Rattle.rules.specs.Openings.{opening}
use Rattle.report.specs.Reports.{report_buffer, most_reported, report_text}

-- With every catalogue that keeps its bounds, every sheet with which a job opens without fault and every list of call records that is not too long, the report fits into its buffer.
abbrev pub ReportLaw : Type 0
ReportLaw = (m : Meaning) → SoundMeaning m → (s : Sheet) → opening m s ≡ None → (rs : List CallRecord) → length rs ≤ most_reported → length (report_text m s rs) ≤ report_buffer
