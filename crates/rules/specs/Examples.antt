-- Worked examples of the rules. Assumes nothing.
use Rattle.std.specs.Prelude.{◌≡◌, ℕ, ◌-◌, Bool, true, false, List, [], ◌∷◌, ℤ, pos, negsuc, Ok, Result, replicate, Some, Option, slice_index_or}
use Rattle.std.specs.List.{AllByRecursion}
use Rattle.rules.specs.declared.lines.Line.{Line}
use Rattle.rules.specs.declared.lines.ClosingLine.{ClosingLine}
use Rattle.rules.specs.declared.records.CallRecord.{CallRecord}
use Rattle.rules.specs.declared.refusals.Fault.{Fault}
use Rattle.rules.specs.declared.sheets.Sheet.{Sheet}
use Rattle.rules.specs.Joinings.{greatest_at_most}
use Rattle.rules.specs.Catalogues.{Meaning, rung}
use Rattle.rules.specs.Sheets.{blank_row}
use Rattle.rules.specs.Choices.{Told, says_least, says_none, price}
use Rattle.rules.specs.Grounds.{line_stands, kept}
use Rattle.rules.specs.Settings.{setting, Seen}
use Rattle.rules.specs.KeptJobs.{verdict_told}
use Rattle.rules.specs.Records.{work_job}

-- What an example comes to.
pub data Value : Type 0 where
  amount : ℤ → Value
  test : Bool → Value
  line : Line → Value
  verdict : Result (Option Seen) Fault → Value

-- An example: what the rules come to, and what they are said to come to.
pub record Example : Type 0 where
  pub worked : List Value
  pub stated : List Value

-- Phones (90, -20) and (60, -50) at place 1, batteries (75, 180) and (40, 100) at place 2: by row, place and version.
abbrev pub alarm_amounts : List (List (List ℤ))
alarm_amounts =
    ((pos 90 ∷ pos 60 ∷ []) ∷ (pos 75 ∷ pos 40 ∷ []) ∷ [])
    ∷ ((negsuc 19 ∷ negsuc 49 ∷ []) ∷ (pos 180 ∷ pos 100 ∷ []) ∷ [])
    ∷ []

-- Two places with two versions each, and these amounts.
abbrev pub alarm_catalogue : Meaning
alarm_catalogue =
    record { places = 2; rows = 2; versions = λ q. 2; amount = λ row q v. slice_index_or (slice_index_or (slice_index_or alarm_amounts row []) (q - 1) []) (v - 1) (pos 0) }

-- Cap 1,000, and at least 60 in row 1; the phone gives way first.
abbrev pub alarm_sheet : Sheet
alarm_sheet =
    record { places = 2; last_row = 1; cap = pos 1000; rows = record { kind = 2; limit = pos 60 } ∷ replicate 7 blank_row; order = 1 ∷ 2 ∷ replicate 14 0 }

-- One place with one version, at price 5.
abbrev pub single_catalogue : Meaning
single_catalogue = record { places = 1; rows = 1; versions = λ q. 1; amount = λ row q v. pos 5 }

-- One place, and no limit but the cap.
abbrev pub single_sheet : ℤ → Sheet
single_sheet cap = record { places = 1; last_row = 0; cap = cap; rows = replicate 8 blank_row; order = 1 ∷ replicate 15 0 }

-- A record that asks for a call by its code, row and number, not answered yet.
abbrev pub asks : ℕ → ℕ → ℤ → CallRecord
asks code row number = record { request = record { code = code; row = row; number = number }; answer = 0 }

-- A search, run with a budget of 100 and closed, and then what comes after.
abbrev pub whole_search : List CallRecord → List CallRecord
whole_search after = asks 3 0 (pos 0) ∷ asks 4 0 (pos 100) ∷ asks 5 0 (pos 0) ∷ after

-- The verdict after a list of call records.
abbrev pub verdict_after : Meaning → Sheet → List CallRecord → Value
verdict_after m s rs = verdict (verdict_told s (work_job m s rs))

-- A verdict that says this, with so many steps and learned grounds held.
abbrev pub seen_as : Told → ℕ → ℕ → Value
seen_as says steps held = verdict (Ok (Some (record { says = says; steps = steps; held = held })))

-- A closing line.
abbrev pub closing : ℕ → ℤ → ClosingLine
closing row k = record { row = row; constant = k }

-- A line.
abbrev pub a_line : ℕ → ℕ → ℤ → Line
a_line row level k = record { row = row; level = level; constant = k }

-- Whether the line (row 0, level 1, constant 60) stands on phones and batteries, at a cap and a part-choice.
abbrev pub line_of_60 : ℤ → List ℕ → Value
line_of_60 cap part = test (line_stands (setting alarm_catalogue alarm_sheet) (λ r. cap) part (a_line 0 1 (pos 60)))

-- Which of two constants of a row remains.
abbrev pub remaining : ℕ → ℤ → ℤ → Value
remaining row a b = line (kept (setting alarm_catalogue alarm_sheet) (a_line row 2 a) (a_line row 2 b))

-- The examples.
abbrev pub examples : List Example
examples =
    -- where the greatest counts, 2 and 6 join to 6, which keeps limit 6 and breaks 5
    record {
      worked = amount (greatest_at_most.join (pos 2) (pos 6)) ∷ test (greatest_at_most.worse (pos 6) (pos 6)) ∷ test (greatest_at_most.worse (pos 6) (pos 5)) ∷ [];
      stated = amount (pos 6) ∷ test false ∷ test true ∷ [];
    }
    -- and -3 and -7 join to -3
    ∷ record { worked = amount (greatest_at_most.join (negsuc 2) (negsuc 6)) ∷ []; stated = amount (negsuc 2) ∷ [] }
    -- where the greater sum is worse, of the constants 90 and 60 the 60 remains
    ∷ record { worked = remaining 0 (pos 90) (pos 60) ∷ []; stated = line (a_line 0 2 (pos 60)) ∷ [] }
    -- where the less is worse, of -50 and 20 the 20
    ∷ record { worked = remaining 1 (negsuc 49) (pos 20) ∷ []; stated = line (a_line 1 2 (pos 20)) ∷ [] }
    -- a ladder of base 40 and step 15 has 70 at version 3
    ∷ record { worked = amount (rung (pos 40) (pos 15) 3) ∷ []; stated = amount (pos 70) ∷ [] }
    -- the line (row 0, level 1, constant 60) with 75 above it stands at cap 134 and not at 135
    ∷ record { worked = line_of_60 (pos 134) (1 ∷ []) ∷ line_of_60 (pos 135) (1 ∷ []) ∷ []; stated = test true ∷ test false ∷ [] }
    -- with two places open it doesn't stand
    ∷ record { worked = line_of_60 (pos 134) [] ∷ []; stated = test false ∷ [] }
    -- one version at price 5 with cap 4 ends "none" after 1 step
    ∷ record {
      worked = verdict_after single_catalogue (single_sheet (pos 4)) (whole_search []) ∷ [];
      stated = seen_as (says_none (closing 0 (pos 5) ∷ [])) 1 1 ∷ [];
    }
    -- with cap 5 it ends "least" after 2
    ∷ record {
      worked = verdict_after single_catalogue (single_sheet (pos 5)) (whole_search []) ∷ [];
      stated = seen_as (says_least (1 ∷ []) (closing 0 (pos 5) ∷ [])) 2 1 ∷ [];
    }
    -- phones and batteries: price 130 with versions 1 and 2; and then, with the limit of row 1 at 50, price 100 with versions 2 and 2
    ∷ record {
      worked =
          verdict_after alarm_catalogue alarm_sheet (whole_search [])
          ∷ amount (price alarm_catalogue alarm_sheet (1 ∷ 2 ∷ []))
          ∷ verdict_after alarm_catalogue alarm_sheet (whole_search (asks 1 1 (pos 50) ∷ whole_search []))
          ∷ amount (price alarm_catalogue alarm_sheet (2 ∷ 2 ∷ []))
          ∷ [];
      stated =
          seen_as (says_least (1 ∷ 2 ∷ []) (closing 0 (pos 130) ∷ closing 1 (pos 50) ∷ [])) 9 3
          ∷ amount (pos 130)
          ∷ seen_as (says_least (2 ∷ 2 ∷ []) (closing 0 (pos 100) ∷ [])) 11 6
          ∷ amount (pos 100)
          ∷ [];
    }
    ∷ []

-- Every example comes to what is stated.
abbrev pub ExamplesHold : Type 0
ExamplesHold = AllByRecursion (λ e. e.worked ≡ e.stated) examples
