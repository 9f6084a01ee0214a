-- The theorems on job files. Assumes nothing.
use Rattle.std.specs.Prelude.{◌≡◌, ℕ, ◌^◌, ◌<◌, ◌≤◌, List, length, Ok, Err}
use Rattle.std.specs.List.{AllByRecursion}
use Rattle.rules.specs.declared.refusals.Fault.{Fault}
use Rattle.rules.specs.Catalogues.{SoundMeaning}
use Rattle.rules.specs.Openings.{Faultless}
use Rattle.jobfile.specs.Bounds.{longest}
use Rattle.jobfile.specs.Stated.{Stated}
use Rattle.jobfile.specs.Writing.{encode}
use Rattle.jobfile.specs.Validity.{Valid, States}
use Rattle.jobfile.specs.Reading.{read}
use Rattle.jobfile.specs.Refusing.{Refused}
use Rattle.jobfile.specs.Opened.{stated_sheet, stated_meaning}

-- A file is accepted as a job exactly when it states that job.
abbrev pub ReadLaw : Type 0
ReadLaw = (bs : List ℕ) → AllByRecursion (λ b. b < 2 ^ 8) bs → (j : Stated) → (read bs ≡ Ok j → States bs j) × (States bs j → read bs ≡ Ok j)

-- The writing of a job has at most so many bytes, so that none is too long for a file.
abbrev pub LongestLaw : Type 0
LongestLaw = (j : Stated) → Valid j → length (encode j) ≤ longest

-- A file is refused with a fault exactly when it meets the reason that the fault names.
abbrev pub RefusedLaw : Type 0
RefusedLaw = (bs : List ℕ) → AllByRecursion (λ b. b < 2 ^ 8) bs → (f : Fault) → (read bs ≡ Err f → Refused bs f) × (Refused bs f → read bs ≡ Err f)

-- The catalogue of a job that can be stated keeps its bounds, and the job opens without a fault.
abbrev pub OpensLaw : Type 0
OpensLaw = (j : Stated) → Valid j → SoundMeaning (stated_meaning j) × Faultless (stated_meaning j) (stated_sheet j)
