-- Worked reports. Assumes nothing.
use Rattle.std.specs.Prelude.{◌≡◌, ℕ, List, [], ◌∷◌, ◌++◌, codes, pos}
use Rattle.std.specs.List.{AllByRecursion}
use Rattle.rules.specs.Examples.{alarm_catalogue, alarm_sheet, single_catalogue, single_sheet, asks, whole_search}
use Rattle.report.specs.Reports.{report_text}

-- A report, and what it is said to be.
pub record ReportExample : Type 0 where
  pub worked : List ℕ
  pub stated : List ℕ

-- The worked reports.
abbrev pub reports : List ReportExample
reports =
    -- phones and batteries: a search, and another with the limit of row 1 at 50
    record {
      worked = report_text alarm_catalogue alarm_sheet (whole_search (asks 1 1 (pos 50) ∷ whole_search []));
      stated =
          codes "JOB 2 1\n" ++
          codes "CALL 1 OK\n" ++
          codes "CALL 2 OK\n" ++
          codes "CALL 3 OK\n" ++
          codes "LEAST 130 1 2 STEPS 9 GROUNDS 3\n" ++
          codes "BY 0 130\n" ++
          codes "BY 1 50\n" ++
          codes "CALL 4 OK\n" ++
          codes "CALL 5 OK\n" ++
          codes "CALL 6 OK\n" ++
          codes "CALL 7 OK\n" ++
          codes "LEAST 100 2 2 STEPS 11 GROUNDS 6\n" ++
          codes "BY 0 100\n";
    }
    -- one version at price 5 with cap 4: a search that comes to none, a close that is refused, and a search that is closed after the last call
    ∷ record {
      worked = report_text single_catalogue (single_sheet (pos 4)) (whole_search (asks 5 0 (pos 0) ∷ asks 3 0 (pos 0) ∷ []));
      stated =
          codes "JOB 1 0\n" ++
          codes "CALL 1 OK\n" ++
          codes "CALL 2 OK\n" ++
          codes "CALL 3 OK\n" ++
          codes "NONE STEPS 1 GROUNDS 1\n" ++
          codes "BY 0 5\n" ++
          codes "CALL 4 REFUSED 14\n" ++
          codes "CALL 5 OK\n" ++
          codes "UNFINISHED - STEPS 0 GROUNDS 1\n";
    }
    ∷ []

-- Every worked report is as stated.
abbrev pub ReportsHold : Type 0
ReportsHold = AllByRecursion (λ e. e.worked ≡ e.stated) reports
