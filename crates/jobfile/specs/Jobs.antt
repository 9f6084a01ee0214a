-- What a job in memory states, and what is promised of reading one. Assumes nothing.
use Rattle.std.specs.Prelude.{◌≡◌, ℕ, List, take, IfOk, Ok, Err, Result}
use Rattle.rules.specs.declared.refusals.Fault.{Fault}
use Rattle.rules.specs.Catalogues.{Meaning, SameAnswers}
use Rattle.rules.specs.Sheets.{last_row, order_of}
use Rattle.catalogue.specs.declared.ladder.Ladder.{Ladder}
use Rattle.catalogue.specs.declared.listed.Listing.{Listing}
use Rattle.catalogue.specs.Beside.{besides}
use Rattle.catalogue.specs.Ladder.{ladder_meaning}
use Rattle.catalogue.specs.Listed.{listed_meaning}
use Rattle.jobfile.specs.declared.job.Job.{Job}
use Rattle.jobfile.specs.Stated.{Stated}
use Rattle.jobfile.specs.Validity.{States}
use Rattle.jobfile.specs.Refusing.{Refused}
use Rattle.jobfile.specs.Opened.{stated_meaning}
use Rattle.jobfile.specs.CallTables.{calls_of}
use Rattle.jobfile.specs.InMemory.{listed_of, ladders_of}
use Rattle.jobfile.specs.Sound.{Tables}

-- The job that a job in memory states, with the bytes of its file.
abbrev pub stated_by : List ℕ → Job → Stated
stated_by file j =
    record {
      places = j.sheet.places;
      last_row = last_row j.sheet;
      cap = j.sheet.cap;
      rows = take (last_row j.sheet) j.sheet.rows;
      order = order_of j.sheet;
      listed = listed_of file j.listing;
      ladders = ladders_of j.ladder;
      calls = calls_of j.calls;
    }

-- What an answer says: the job that is stated, or the fault.
abbrev pub says : List ℕ → Result Job Fault → Result Stated Fault
says file (Ok j) = Ok (stated_by file j)
says file (Err f) = Err f

-- The meaning of a listing over the bytes of a file, beside a ladder.
abbrev pub catalogue_meaning : List ℕ → Listing → Ladder → Meaning
catalogue_meaning file l d = besides (listed_meaning file l.rows l.places.items) (ladder_meaning d.rows d.places.items)

-- The meaning of the catalogue of a job in memory.
abbrev pub job_meaning : List ℕ → Job → Meaning
job_meaning file j = catalogue_meaning file j.listing j.ladder

-- What is promised of reading a file.
pub record RightlyRead (file : List ℕ) (answer : Result Job Fault) : Type 0 where
  -- it is accepted as a job exactly when it states that job
  pub accepted : (j : Stated) → (says file answer ≡ Ok j → States file j) × (States file j → says file answer ≡ Ok j)
  -- it is refused with a fault exactly when it meets the reason that the fault names
  pub refused : (f : Fault) → (answer ≡ Err f → Refused file f) × (Refused file f → answer ≡ Err f)
  -- its catalogue answers every question as that of the stated job does
  pub catalogue : IfOk answer (λ j. SameAnswers (job_meaning file j) (stated_meaning (stated_by file j)))
  -- its tables are these and no others
  pub tables : IfOk answer (Tables file)
