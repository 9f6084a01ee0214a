-- Jobs as they are kept, with the fault of their opening or without one: how they come about, and what calls and questions are told on them. Assumes nothing.
use Rattle.std.specs.Prelude.{◌≡◌, ℕ, List, [], ℤ, Ok, Err, Result, Some, None, Option, nat_le}
use Rattle.std.specs.Option.{option_map}
use Rattle.rules.specs.declared.refusals.Fault.{Fault}
use Rattle.rules.specs.declared.refusals.Refusal.TheVariants.{NoSuchRow}
use Rattle.rules.specs.declared.sheets.Sheet.{Sheet}
use Rattle.rules.specs.Refusals.{fault, where_holds}
use Rattle.rules.specs.Catalogues.{Meaning}
use Rattle.rules.specs.Sheets.{last_row, limit_of}
use Rattle.rules.specs.Openings.{opening}
use Rattle.rules.specs.Grounds.{Setting}
use Rattle.rules.specs.Calls.{Job, closed, running, Call, Answer, taken, ran, refused, reply}
use Rattle.rules.specs.Histories.{Entry, History, limits_of}
use Rattle.rules.specs.Settings.{setting, Seen, seen}

-- A job as it is kept: with the fault of its opening, or without one.
pub data KeptJob : Type 0 where
  faulty : Fault → KeptJob
  faultless : Job → KeptJob

-- A job as it is opened: with the sheet's limits, or with the first fault found.
abbrev pub opened_with : Sheet → Option Fault → KeptJob
opened_with s (Some f) = faulty f
opened_with s None = faultless (closed (limit_of s) [] None)

-- A job that was opened with a sheet and a catalogue of this meaning has come about by these calls, the latest first; opened with a fault, it keeps that.
abbrev pub CameBy : Meaning → Sheet → List Entry → KeptJob → Type 0
CameBy m s es (faulty f) = opening m s ≡ Some f
CameBy m s es (faultless j) = (opening m s ≡ None) × History (setting m s) (limit_of s) es j

-- The fault of a job's opening, if it found one.
abbrev pub fault_of : KeptJob → Option Fault
fault_of (faulty f) = Some f
fault_of (faultless j) = None

-- What an answer tells the caller: a refusal is told as a fault that says nothing of where it was met.
abbrev pub heard : Answer → Result Answer Fault
heard taken = Ok taken
heard (ran w k) = Ok (ran w k)
heard (refused e) = Err (fault e)

module _ (S : Setting) where
  -- What a call on a job is told, worked out: the fault of the opening comes before any other.
  abbrev pub told_on : KeptJob → Call → Result Answer Fault
  told_on (faulty f) c = Err f
  told_on (faultless j) c = heard (reply S j c).answer

  -- The job after a call, worked out.
  abbrev pub job_by : KeptJob → Call → KeptJob
  job_by (faulty f) c = faulty f
  job_by (faultless j) c = faultless (reply S j c).job

-- What is told of the limit in force on a row.
abbrev pub limit_told : Sheet → KeptJob → ℕ → Result ℤ Fault
limit_told s (faulty f) row = Err f
limit_told s (faultless j) row = where_holds (nat_le row (last_row s)) (fault NoSuchRow) (Ok (limits_of j row))

-- The verdict that a job carries; none while it is unsearched or running, or where it has a fault.
abbrev pub seen_of : Sheet → KeptJob → Option Seen
seen_of s (faulty f) = None
seen_of s (faultless (running L σ)) = None
seen_of s (faultless (closed L gs v)) = option_map (seen s) v

-- What is told of the verdict.
abbrev pub verdict_told : Sheet → KeptJob → Result (Option Seen) Fault
verdict_told s (faulty f) = Err f
verdict_told s (faultless j) = Ok (seen_of s (faultless j))
