-- The report of a job: a line for each call record, and after a close what it says of the search. Assumes nothing.
use Rattle.std.specs.Prelude.{ℕ, zero, suc, List, [], ◌∷◌, ◌++◌, flat_map, codes, decimal, Some, None, Option}
use Rattle.std.specs.Fmt.{signed_decimal}
use Rattle.rules.specs.declared.lines.ClosingLine.{ClosingLine}
use Rattle.rules.specs.declared.records.CallRecord.{CallRecord}
use Rattle.rules.specs.declared.sheets.Sheet.{Sheet}
use Rattle.rules.specs.Catalogues.{Meaning}
use Rattle.rules.specs.Sheets.{last_row}
use Rattle.rules.specs.Choices.{Told, says_least, says_none, says_full, says_unfinished, price}
use Rattle.rules.specs.Openings.{opening}
use Rattle.rules.specs.Calls.{closed, running}
use Rattle.rules.specs.Settings.{setting, Seen}
use Rattle.rules.specs.KeptJobs.{KeptJob, faulty, faultless, seen_of, opened_with}
use Rattle.rules.specs.Records.{answer_to, job_after, closed_job}

-- A report is written into a buffer of at least so many bytes, and is never longer.
abbrev pub report_buffer : ℕ
report_buffer = 40960

-- A report tells of at most so many call records.
abbrev pub most_reported : ℕ
most_reported = 256

-- The first line: the sheet's number of places and its last row.
abbrev pub job_line : Sheet → List ℕ
job_line s = codes "JOB " ++ decimal s.places ++ codes " " ++ decimal (last_row s) ++ codes "\n"

-- What stands for an answer: OK for 0, and else the number of the refusal.
abbrev pub answer_text : ℕ → List ℕ
answer_text zero = codes "OK"
answer_text (suc n) = codes "REFUSED " ++ decimal (suc n)

-- The line of a record: its number among the records, and its answer.
abbrev pub call_line : ℕ → ℕ → List ℕ
call_line k answer = codes "CALL " ++ decimal k ++ codes " " ++ answer_text answer ++ codes "\n"

-- The text of a closing ground's line: its row and its constant.
abbrev pub closing_line : ClosingLine → List ℕ
closing_line l = codes "BY " ++ decimal l.row ++ codes " " ++ signed_decimal l.constant ++ codes "\n"

-- The closing ground that is told; no lines where there is none.
abbrev pub told_ground : Told → List ClosingLine
told_ground (says_least c g) = g
told_ground (says_none g) = g
told_ground (says_full best) = []
told_ground (says_unfinished best) = []

module _ (m : Meaning) (s : Sheet) where
  -- A choice: its price and its version of each place, all behind spaces; and a dash where there is none.
  abbrev pub choice_text : Option (List ℕ) → List ℕ
  choice_text None = codes " -"
  choice_text (Some c) = codes " " ++ signed_decimal (price m s c) ++ flat_map (λ v. codes " " ++ decimal v) c

  -- What is said of a search: the word for it, and the choice that is told.
  abbrev pub told_text : Told → List ℕ
  told_text (says_least c g) = codes "LEAST" ++ choice_text (Some c)
  told_text (says_none g) = codes "NONE"
  told_text (says_full best) = codes "FULL" ++ choice_text best
  told_text (says_unfinished best) = codes "UNFINISHED" ++ choice_text best

  -- A verdict: the line of what is said with the steps and the learned grounds held, and then the lines of the closing ground.
  abbrev pub seen_text : Seen → List ℕ
  seen_text v =
      told_text v.says ++ codes " STEPS " ++ decimal v.steps ++ codes " GROUNDS " ++ decimal v.held ++ codes "\n" ++
      flat_map closing_line (told_ground v.says)

  -- The verdict, where there is one.
  abbrev pub verdict_text : Option Seen → List ℕ
  verdict_text None = []
  verdict_text (Some v) = seen_text v

  -- What a call adds to its line, by the job before and after it: the verdict where a running search was closed, and else nothing.
  abbrev pub closing_text : KeptJob → KeptJob → List ℕ
  closing_text (faulty f) after = []
  closing_text (faultless (closed L gs v)) after = []
  closing_text (faultless (running L σ)) after = verdict_text (seen_of s after)

  -- The lines of records on a job, numbered from a number on, and the verdict of a search that is closed after the last.
  abbrev pub calls_text : KeptJob → ℕ → List CallRecord → List ℕ
  calls_text j k [] = closing_text j (closed_job (setting m s) j)
  calls_text j k (r ∷ rs) =
      call_line k (answer_to (setting m s) j r.request) ++ closing_text j (job_after (setting m s) j r.request) ++
      calls_text (job_after (setting m s) j r.request) (suc k) rs

  -- The report of a list of call records on a job that is opened for them.
  abbrev pub report_text : List CallRecord → List ℕ
  report_text rs = job_line s ++ calls_text (opened_with s (opening m s)) 1 rs
