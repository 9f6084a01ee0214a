-- Files, and what the reader says of them. Assumes nothing.
use Rattle.std.specs.Prelude.{◌≡◌, ℕ, List, [], ◌∷◌, ◌++◌, ℤ, pos, negsuc, Ok, Err, Result}
use Rattle.std.specs.List.{AllByRecursion}
use Rattle.rules.specs.declared.records.Request.{Request}
use Rattle.rules.specs.declared.refusals.Fault.{Fault}
use Rattle.rules.specs.declared.refusals.Refusal.TheVariants.{FieldCut, TagNotAllowed, WrongLength, CountOutside, LimitBeyond, CountsDiffer, AmountBeyond}
use Rattle.rules.specs.Refusals.{fault_in}
use Rattle.jobfile.specs.Stated.{Stated}
use Rattle.jobfile.specs.Reading.{read}

-- A file, and what it is read as.
pub record FileExample : Type 0 where
  pub bytes : List ℕ
  pub says : Result Stated Fault

-- The sheet, row 1 and the order.
abbrev pub worked_sheet : List ℕ
worked_sheet = 1 ∷ 0 ∷ 6 ∷ 2 ∷ 1 ∷ 0 ∷ 0 ∷ 3 ∷ 232 ∷ 2 ∷ 0 ∷ 5 ∷ 2 ∷ 0 ∷ 0 ∷ 0 ∷ 60 ∷ 3 ∷ 0 ∷ 2 ∷ 1 ∷ 2 ∷ []

-- The versions of the phone and of the battery.
abbrev pub worked_versions : List ℕ
worked_versions = 4 ∷ 0 ∷ 9 ∷ 1 ∷ 0 ∷ 0 ∷ 0 ∷ 90 ∷ 255 ∷ 255 ∷ 255 ∷ 236 ∷ 4 ∷ 0 ∷ 9 ∷ 1 ∷ 0 ∷ 0 ∷ 0 ∷ 60 ∷ 255 ∷ 255 ∷ 255 ∷ 206 ∷ 4 ∷ 0 ∷ 9 ∷ 2 ∷ 0 ∷ 0 ∷ 0 ∷ 75 ∷ 0 ∷ 0 ∷ 0 ∷ 180 ∷ 4 ∷ 0 ∷ 9 ∷ 2 ∷ 0 ∷ 0 ∷ 0 ∷ 40 ∷ 0 ∷ 0 ∷ 0 ∷ 100 ∷ []

-- A search, a limit change, and another search.
abbrev pub worked_calls : List ℕ
worked_calls = 6 ∷ 0 ∷ 6 ∷ 3 ∷ 0 ∷ 0 ∷ 0 ∷ 0 ∷ 0 ∷ 6 ∷ 0 ∷ 6 ∷ 4 ∷ 0 ∷ 0 ∷ 0 ∷ 0 ∷ 100 ∷ 6 ∷ 0 ∷ 6 ∷ 5 ∷ 0 ∷ 0 ∷ 0 ∷ 0 ∷ 0 ∷ 6 ∷ 0 ∷ 6 ∷ 1 ∷ 1 ∷ 0 ∷ 0 ∷ 0 ∷ 50 ∷ 6 ∷ 0 ∷ 6 ∷ 3 ∷ 0 ∷ 0 ∷ 0 ∷ 0 ∷ 0 ∷ 6 ∷ 0 ∷ 6 ∷ 4 ∷ 0 ∷ 0 ∷ 0 ∷ 0 ∷ 100 ∷ 6 ∷ 0 ∷ 6 ∷ 5 ∷ 0 ∷ 0 ∷ 0 ∷ 0 ∷ 0 ∷ []

-- What a record asks: its code, row and number.
abbrev asks : ℕ → ℕ → ℤ → Request
asks code row number = record { code = code; row = row; number = number }

-- The calls search, run with budget 100, and close.
abbrev one_search : List Request
one_search = asks 3 0 (pos 0) ∷ asks 4 0 (pos 100) ∷ asks 5 0 (pos 0) ∷ []

-- Phones (90, -20) and (60, -50), batteries (75, 180) and (40, 100), and two searches.
abbrev pub worked_job : Stated
worked_job =
    record {
      places = 2;
      last_row = 1;
      cap = pos 1000;
      rows = record { kind = 2; limit = pos 60 } ∷ [];
      order = 1 ∷ 2 ∷ [];
      listed = ((pos 90 ∷ negsuc 19 ∷ []) ∷ (pos 60 ∷ negsuc 49 ∷ []) ∷ []) ∷ ((pos 75 ∷ pos 180 ∷ []) ∷ (pos 40 ∷ pos 100 ∷ []) ∷ []) ∷ [];
      ladders = [];
      calls = one_search ++ (asks 1 1 (pos 50) ∷ one_search);
    }

-- The examples.
abbrev pub files : List FileExample
files =
    -- the worked job
    record { bytes = worked_sheet ++ (worked_versions ++ worked_calls); says = Ok worked_job }
    -- an empty file
    ∷ record { bytes = []; says = Err (fault_in TagNotAllowed 0 0 0 0) }
    -- a head that is cut, and a body that is cut
    ∷ record { bytes = 1 ∷ 0 ∷ []; says = Err (fault_in FieldCut 0 0 0 0) }
    ∷ record { bytes = 1 ∷ 0 ∷ 6 ∷ 2 ∷ []; says = Err (fault_in FieldCut 0 0 0 0) }
    -- 17 places
    ∷ record { bytes = 1 ∷ 0 ∷ 6 ∷ 17 ∷ 1 ∷ 0 ∷ 0 ∷ 3 ∷ 232 ∷ []; says = Err (fault_in CountOutside 0 0 0 0) }
    -- a cap of 20,000,001
    ∷ record { bytes = 1 ∷ 0 ∷ 6 ∷ 2 ∷ 1 ∷ 1 ∷ 49 ∷ 45 ∷ 1 ∷ []; says = Err (fault_in LimitBeyond 0 0 0 0) }
    -- a second sheet, and a row of the wrong length
    ∷ record { bytes = 1 ∷ 0 ∷ 6 ∷ 2 ∷ 1 ∷ 0 ∷ 0 ∷ 3 ∷ 232 ∷ 1 ∷ 0 ∷ 6 ∷ 2 ∷ 1 ∷ 0 ∷ 0 ∷ 3 ∷ 232 ∷ []; says = Err (fault_in TagNotAllowed 9 0 0 0) }
    ∷ record { bytes = 1 ∷ 0 ∷ 6 ∷ 2 ∷ 1 ∷ 0 ∷ 0 ∷ 3 ∷ 232 ∷ 2 ∷ 0 ∷ 4 ∷ 2 ∷ 0 ∷ 0 ∷ 0 ∷ []; says = Err (fault_in WrongLength 9 0 0 0) }
    -- a file that ends before its order
    ∷ record { bytes = 1 ∷ 0 ∷ 6 ∷ 2 ∷ 1 ∷ 0 ∷ 0 ∷ 3 ∷ 232 ∷ []; says = Err (fault_in TagNotAllowed 9 0 0 0) }
    -- places without versions
    ∷ record { bytes = worked_sheet; says = Err (fault_in CountsDiffer 0 0 0 2) }
    -- an amount of -1,000,001 in the second rung of a ladder, in row 1
    ∷ record { bytes = worked_sheet ++ (5 ∷ 0 ∷ 18 ∷ 1 ∷ 2 ∷ 0 ∷ 0 ∷ 0 ∷ 1 ∷ 0 ∷ 0 ∷ 0 ∷ 1 ∷ 255 ∷ 240 ∷ 189 ∷ 193 ∷ 255 ∷ 255 ∷ 255 ∷ 254 ∷ []); says = Err (fault_in AmountBeyond 22 1 2 1) }
    ∷ []

-- Every file is read as is stated.
abbrev pub FilesHold : Type 0
FilesHold = AllByRecursion (λ e. read e.bytes ≡ e.says) files
