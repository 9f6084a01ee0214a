-- What is written on a page. Assumes nothing.
use Rattle.std.specs.Prelude.{◌≡◌, ℕ, List, ◌++◌}
use Rattle.rules.specs.declared.records.CallRecord.{CallRecord}
use Rattle.rules.specs.declared.sheets.Sheet.{Sheet}
use Rattle.rules.specs.Catalogues.{Meaning}
use Rattle.rules.specs.Settings.{setting}
use Rattle.rules.specs.KeptJobs.{KeptJob}
use Rattle.rules.specs.Records.{answer_to, answered, job_after}
use Rattle.report.specs.declared.page.Page.{Page}
use Rattle.report.specs.Pages.{fitting}
use Rattle.report.specs.Reports.{call_line, closing_text}

-- A text is written behind what stands on a page, as far as there is space.
pub record Puts (before : Page) (text : List ℕ) (after : Page) : Type 0 where
  pub text_is : after.bytes.items ≡ fitting (before.bytes.items ++ text)

-- The record of a number is carried out on a job: it has its answer, the job is the one after it, and its line is written, with the verdict behind it where a search is closed.
pub record Recorded (m : Meaning) (s : Sheet) (job : KeptJob) (k : ℕ) (before after : CallRecord) (next : KeptJob) (page written : Page) : Type 0 where
  pub answer : after ≡ answered before (answer_to (setting m s) job before.request)
  pub job_is : next ≡ job_after (setting m s) job before.request
  pub text : Puts page (call_line k (answer_to (setting m s) job before.request) ++ closing_text m s job (job_after (setting m s) job before.request)) written
