-- Calls that come as a list of call records: what comes of them on a job, and that it is right at every time. Assumes nothing.
use Rattle.std.specs.Prelude.{◌≡◌, ℕ, if◌then◌else◌, ◌&&◌, List, [], ◌∷◌, ◌++◌, map, reverse, pos, Some, None, Option, ◌==◌, ◌≢◌, nat_eq, unsigned_abs}
use Rattle.std.specs.List.{AllByRecursion}
use Rattle.rules.specs.declared.records.CallRecord.{CallRecord}
use Rattle.rules.specs.declared.records.Request.{Request}
use Rattle.rules.specs.declared.refusals.Refusal.TheVariants.{NoCall}
use Rattle.rules.specs.declared.sheets.Sheet.{Sheet}
use Rattle.rules.specs.Refusals.{refusal_number}
use Rattle.rules.specs.Catalogues.{Meaning}
use Rattle.rules.specs.Sheets.{Limits, limit_of}
use Rattle.rules.specs.Openings.{opening}
use Rattle.rules.specs.Grounds.{Setting}
use Rattle.rules.specs.Calls.{Job, closed, running, Call, change, clear, begin_search, close, run, Answer, taken, ran, refused, reply}
use Rattle.rules.specs.Histories.{Entry, History}
use Rattle.rules.specs.Settings.{setting}
use Rattle.rules.specs.KeptJobs.{KeptJob, faulty, faultless, opened_with}
use Rattle.rules.specs.Promises.{RightThroughout}

-- The request of a call: its code, and 0 for each part that the code does not use.
abbrev pub request_of : Call → Request
request_of (change row limit) = record { code = 1; row = row; number = limit }
request_of clear = record { code = 2; row = 0; number = pos 0 }
request_of begin_search = record { code = 3; row = 0; number = pos 0 }
request_of (run budget) = record { code = 4; row = 0; number = budget }
request_of close = record { code = 5; row = 0; number = pos 0 }

-- The number that a record is given for an answer: 0, or that of the refusal.
abbrev pub answer_number : Answer → ℕ
answer_number taken = 0
answer_number (ran w k) = 0
answer_number (refused e) = refusal_number e

-- The calls, with their answers, that come of records with theirs: a record that asks for no call is passed over, and after the last a search is closed.
pub data ComesOf : List CallRecord → List Entry → Type 0 where
  done : ComesOf [] []
  closed_last : ComesOf [] (record { call = close; answer = taken } ∷ [])
  called_by : {r : CallRecord} {rs : List CallRecord} {es : List Entry} (c : Call) (a : Answer) → r.request ≡ request_of c → r.answer ≡ answer_number a → ComesOf rs es → ComesOf (r ∷ rs) (record { call = c; answer = a } ∷ es)
  passed_over : {r : CallRecord} {rs : List CallRecord} {es : List Entry} → ((c : Call) → r.request ≢ request_of c) → r.answer ≡ refusal_number NoCall → ComesOf rs es → ComesOf (r ∷ rs) es

-- A job is closed.
abbrev pub IsClosed : Job → Type 0
IsClosed (closed L gs v) = Unit {0}
IsClosed (running L σ) = ⊥

-- What a list of call records comes to on a job that was opened with these limits and has had some calls: a history that goes on with just the records' calls and answers, and leaves the job closed.
pub record ComesTo (S : Setting) (L : Limits) (before : List Entry) (rs : List CallRecord) (j : Job) : Type 0 where
  -- the records' calls with their answers, the latest first
  pub calls : List Entry
  pub history : History S L (calls ++ before) j
  pub just_these : ComesOf rs (reverse calls)
  pub is_closed : IsClosed j

-- The requests of records, without their answers.
abbrev pub requests : List CallRecord → List Request
requests rs = map (λ r. r.request) rs

-- A list of call records was carried out as the rules say, on a job that has had some calls, and what was said was right at every time.
pub record CarriedOut (m : Meaning) (s : Sheet) (before : List Entry) (rs : List CallRecord) (j : Job) : Type 0 where
  pub course : ComesTo (setting m s) (limit_of s) before rs j
  pub right : RightThroughout m s course.history
  -- no other answers and no other job come of these requests
  pub only : (os : List CallRecord) (k : Job) → requests os ≡ requests rs → ComesTo (setting m s) (limit_of s) before os k → (os ≡ rs) × (k ≡ j)

-- What is promised of a sheet, a catalogue's meaning, the calls before, a list of call records with their answers, and the job afterwards: opened with a fault, the job keeps it and every record has its number for an answer; opened without, the records are carried out.
abbrev pub Lawful : Meaning → Sheet → List Entry → List CallRecord → KeptJob → Type 0
Lawful m s before rs (faulty f) = (opening m s ≡ Some f) × AllByRecursion (λ r. r.answer ≡ f.number) rs
Lawful m s before rs (faultless j) = (opening m s ≡ None) × CarriedOut m s before rs j

-- The call that a request is for, worked out: none where the code isn't 1 to 5, or a part that the code does not use isn't 0.
unfoldable pub asked : Request → Option Call
asked r =
    let rowless = nat_eq r.row 0 in
    let bare = rowless && nat_eq (unsigned_abs r.number) 0 in
    if r.code == 1 then Some (change r.row r.number)
    else if r.code == 2 && bare then Some clear
    else if r.code == 3 && bare then Some begin_search
    else if r.code == 4 && rowless then Some (run r.number)
    else if r.code == 5 && bare then Some close
    else None

-- A record with its answer given; what it asks stays.
abbrev pub answered : CallRecord → ℕ → CallRecord
answered r n = record { request = r.request; answer = n }

module _ (S : Setting) where
  -- The answer to a request, worked out: the number of the job's fault comes before any other.
  abbrev pub answer_to : KeptJob → Request → ℕ
  answer_to (faulty f) r = f.number
  answer_to (faultless j) r = elim (asked r) [ None ↦ refusal_number NoCall | Some c ↦ answer_number (reply S j c).answer ]

  -- The job after a request, worked out.
  abbrev pub job_after : KeptJob → Request → KeptJob
  job_after (faulty f) r = faulty f
  job_after (faultless j) r = elim (asked r) [ None ↦ faultless j | Some c ↦ faultless (reply S j c).job ]

  -- A search that is still running is closed.
  abbrev pub closed_job : KeptJob → KeptJob
  closed_job (faulty f) = faulty f
  closed_job (faultless (closed L gs v)) = faultless (closed L gs v)
  closed_job (faultless (running L σ)) = faultless (reply S (running L σ) close).job

  -- The records with their answers, worked out.
  abbrev pub all_answered : KeptJob → List CallRecord → List CallRecord
  all_answered k [] = []
  all_answered k (r ∷ rs) = answered r (answer_to k r.request) ∷ all_answered (job_after k r.request) rs

  -- The job after a list of call records, worked out.
  abbrev pub job_after_all : KeptJob → List CallRecord → KeptJob
  job_after_all k [] = closed_job k
  job_after_all k (r ∷ rs) = job_after_all (job_after k r.request) rs

-- The records with their answers, on a job that is opened for them, worked out.
abbrev pub work_records : Meaning → Sheet → List CallRecord → List CallRecord
work_records m s rs = all_answered (setting m s) (opened_with s (opening m s)) rs

-- The job after them, worked out.
abbrev pub work_job : Meaning → Sheet → List CallRecord → KeptJob
work_job m s rs = job_after_all (setting m s) (opened_with s (opening m s)) rs
