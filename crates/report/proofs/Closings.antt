-- What a call adds to its line: the verdict of the search that it closes. Assumes nothing.
use Rattle.std.proofs.Common.{◌≡◌, ℕ, Bool, true, false, List, Ok, Err, Result, refl, sym, ap, ◌∙◌}
use Rattle.rules.specs.declared.refusals.Fault.{Fault}
use Rattle.rules.specs.declared.sheets.Sheet.{Sheet}
use Rattle.rules.specs.Catalogues.{Meaning}
use Rattle.rules.specs.KeptJobs.{KeptJob, faulty, seen_of}
use Rattle.chooser.specs.declared.opened.Opened.{Opened}
use Rattle.chooser.specs.Models.{kept}
use Rattle.report.specs.Reports.{closing_text, verdict_text}

module _ (m : Meaning) (s : Sheet) where
  -- the text of the verdict that a job carries
  abbrev pub said : KeptJob → List ℕ
  said k = verdict_text m s (seen_of s k)

  -- a job with a fault keeps it
  abbrev pub KeepsFault : KeptJob → KeptJob → Type 0
  KeepsFault j k = (f : Fault) → j ≡ faulty f → k ≡ faulty f

  closed_running : (o : Result Opened Fault) (k : KeptJob) → KeepsFault (kept true o) k → closing_text m s (kept true o) k ≡ said k
  closed_running (Ok r) k h = refl
  closed_running (Err f) k h = sym (ap said (h f refl))

  -- where a search was running, it is the verdict that the job carries then
  pub closed_said : (running : Bool) (o : Result Opened Fault) (k : KeptJob) → running ≡ true → KeepsFault (kept running o) k → closing_text m s (kept running o) k ≡ said k
  closed_said false o k r h = cc
  closed_said true o k r h = closed_running o k h

-- the verdict of a job as code has it
pub same_said : {n m : Meaning} {t s : Sheet} {i k : KeptJob} → n ≡ m → t ≡ s → i ≡ k → said n t i ≡ said m s k
same_said {n} {m} {t} {s} {i} {k} d e f = ap (λ m. said m t i) d ∙ ap (λ s. said m s i) e ∙ ap (said m s) f
