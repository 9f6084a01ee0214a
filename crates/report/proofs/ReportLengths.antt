-- A report is no longer than its first line and a share for each record. Assumes nothing.
use Rattle.std.proofs.Common.{◌≡◌, ℕ, suc, ◌+◌, ◌*◌, ◌≤◌, List, [], ◌∷◌, ◌++◌, length, Some, None, Option, subst, sym, arith, length-append}
use Rattle.rules.specs.declared.records.CallRecord.{CallRecord}
use Rattle.rules.specs.declared.refusals.Refusal.TheVariants.{NoCall}
use Rattle.rules.specs.declared.sheets.Sheet.{Sheet}
use Rattle.rules.specs.Catalogues.{Meaning, SoundMeaning}
use Rattle.rules.specs.Sheets.{Limits, limit_of}
use Rattle.rules.specs.Refusals.{refusal_number}
use Rattle.rules.specs.Openings.{Faultless, opening}
use Rattle.rules.specs.Grounds.{Setting}
use Rattle.rules.specs.Search.{Named, Outcome, State}
use Rattle.rules.specs.Calls.{Answer, Call, Does, Job, close, closed, closes, refuses, reply, running, runs, verdict}
use Rattle.rules.specs.Histories.{Entry, History, called, opened}
use Rattle.rules.specs.Settings.{seen, setting}
use Rattle.rules.specs.Promises.{Right, by_verdict}
use Rattle.rules.specs.KeptJobs.{KeptJob, faultless, opened_with}
use Rattle.rules.specs.Records.{answer_number, asked, closed_job}
use Rattle.rules.proofs.CallHistories.{steps_within}
use Rattle.rules.proofs.OpeningTests.{none_faultless}
use Rattle.rules.proofs.Replies.{call_law}
use Rattle.rules.proofs.Rights.{right_throughout}
use Rattle.report.specs.Reports.{call_line, calls_text, closing_text, job_line, most_reported, seen_text}
use Rattle.report.specs.Theorems.{ReportLaw}
use Rattle.report.proofs.LineLengths.{answer_few, call_fits, job_fits, line_most}
use Rattle.report.proofs.VerdictLengths.{seen_fits, verdict_most}

-- for how many bytes a record is counted: twice that holds the lines of a search and its close, and a verdict
abbrev share : ℕ
share = 158

-- what is left of a share after the line of its record
abbrev left_over : ℕ
left_over = 138

-- what the lines still to come on a job may need beyond the shares of their records
abbrev spared : Job → ℕ
spared (closed L gs v) = left_over
spared (running L σ) = verdict_most

spared_within : (j : Job) → (left_over ≤ spared j) × (spared j ≤ verdict_most)
spared_within (closed L gs v) = (omega arith, omega arith)
spared_within (running L σ) = (omega arith, omega arith)

module _ (m : Meaning) (w : SoundMeaning m) (s : Sheet) (f : Faultless m s) where
  abbrev S : Setting
  S = setting m s

  abbrev pub Past : Job → Type 0
  Past j = (es : List Entry) × History S (limit_of s) es j

  verdict_fits : (L : Limits) (σ : State) (o : Outcome) → Past (running L σ) → Named S L σ o → length (seen_text m s (seen s (verdict σ o))) ≤ verdict_most
  verdict_fits L σ o h n =
      let r : Right m s (called h.1 (closes o n)) = (right_throughout m w s f (called h.1 (closes o n))).1 in
      seen_fits m w s f L (seen s (verdict σ o)) (r.saying _ by_verdict) (r.shape _ by_verdict) (steps_within S h.1) r.space.0

  -- the line of a call and what it closes are within its share
  within_share : {j : Job} {c : Call} {a : Answer} {k : Job} → Past j → Does S j c a k → length (closing_text m s (faultless j) (faultless k)) + line_most + spared k ≤ share + spared j
  within_share {j = closed L gs v} {k = k} h d = omega (arith, (spared_within k).1)
  within_share {j = running L σ} h (refuses r) = omega arith
  within_share {j = running L σ} h (runs p q) = omega arith
  within_share {j = running L σ} h (closes o n) = omega (arith, verdict_fits L σ o h n)

  closed_fits : (j : Job) → Past j → length (closing_text m s (faultless j) (closed_job S (faultless j))) ≤ spared j
  closed_fits (closed L gs v) h = omega arith
  closed_fits (running L σ) h =
      let d = (call_law S (running L σ) close).0 in
      omega (arith, within_share h d, (spared_within (reply S (running L σ) close).job).0)

  -- nothing is closed where nothing is called
  none_closed : (j : Job) → length (closing_text m s (faultless j) (faultless j)) ≡ 0
  none_closed (closed L gs v) = omega arith
  none_closed (running L σ) = omega arith

  abbrev Fits : ℕ → List CallRecord → Job → Type 0
  Fits k rs j = Past j → length (calls_text m s (faultless j) k rs) ≤ share * length rs + spared j

  -- the answer and the job by the call that a record asks for
  abbrev pub answer_by : Job → Option Call → ℕ
  answer_by j None = refusal_number NoCall
  answer_by j (Some c) = answer_number (reply S j c).answer

  abbrev pub job_by : Job → Option Call → KeptJob
  job_by j None = faultless j
  job_by j (Some c) = faultless (reply S j c).job

  first_fits : (j : Job) (k : ℕ) (rs : List CallRecord) (o : Option Call) → k ≤ most_reported → ((i : Job) → Fits (suc k) rs i) → Past j → length (call_line k (answer_by j o) ++ closing_text m s (faultless j) (job_by j o) ++ calls_text m s (job_by j o) (suc k) rs) ≤ share * suc (length rs) + spared j
  first_fits j k rs None l rec h = grind (arith, length-append, call_fits k 5 l (omega arith), none_closed j, rec j h)
  first_fits j k rs (Some c) l rec h =
      let r = reply S j c in
      let d = (call_law S j c).0 in
      grind (arith, length-append, call_fits k (answer_number r.answer) l (answer_few r.answer), within_share h d, rec r.job (_, called h.1 d))

  calls_fit : (k : ℕ) (rs : List CallRecord) → k + length rs ≤ suc most_reported → (j : Job) → Fits k rs j
  calls_fit k [] l j h = omega (arith, closed_fits j h)
  calls_fit k (r ∷ rs) l j h = first_fits j k rs (asked r.request) (omega (arith, l)) (calls_fit (suc k) rs (omega (arith, l))) h

pub report_law : ReportLaw
report_law m w s e rs l =
    let f = none_faultless m s e in
    let lines = calls_fit m w s f 1 rs (omega (arith, l)) (closed (limit_of s) [] None) ([], opened) in
    let text = subst (λ o. length (calls_text m s (opened_with s o) 1 rs) ≤ share * length rs + left_over) (sym e) lines in
    omega (arith, length-append (job_line s) (calls_text m s (opened_with s (opening m s)) 1 rs), job_fits s f.few_places f.few_rows, text, l)
