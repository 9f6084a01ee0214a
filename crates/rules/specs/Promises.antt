-- What is promised of a job at every time: its limits, what its searches say, their steps and their grounds. Assumes nothing.
use Rattle.std.specs.Prelude.{◌≡◌, ◌*◌, ◌<◌, ◌≤◌, List, length, Some, None, Option, ◌≢◌}
use Rattle.std.specs.List.{AllByRecursion}
use Rattle.rules.specs.declared.sheets.Sheet.{Sheet}
use Rattle.rules.specs.Bounds.{most_grounds, most_lines}
use Rattle.rules.specs.Catalogues.{Meaning}
use Rattle.rules.specs.Sheets.{Limits, limit_of, order_of}
use Rattle.rules.specs.Choices.{Told, says_least, says_none, says_full, says_unfinished, TrueAt, WellTold, part_choices}
use Rattle.rules.specs.Grounds.{Ground, Proper, WellFormed}
use Rattle.rules.specs.Search.{State, start, line_count, Runs, Ended}
use Rattle.rules.specs.Calls.{when_ended, Verdict, Job, closed, running, Why, has_ended}
use Rattle.rules.specs.Histories.{Entry, History, opened, called, limits_of, learned_of, limits_after, steps_run, last_why, began_with, LastBudgetKept}
use Rattle.rules.specs.Settings.{setting, told, TrueGround}

-- What is said names a least choice, or none, exactly if the last run answered that the search has ended.
abbrev pub EndSaid : Told → Option Why → Type 0
EndSaid (says_least c g) w = w ≡ Some has_ended
EndSaid (says_none g) w = w ≡ Some has_ended
EndSaid (says_full best) w = w ≢ Some has_ended
EndSaid (says_unfinished best) w = w ≢ Some has_ended

-- A verdict reports as many learned grounds as the job holds.
abbrev pub HeldReported : Job → Type 0
HeldReported (closed L gs None) = Unit {0}
HeldReported (closed L gs (Some v)) = v.held ≡ length gs
HeldReported (running L σ) = Unit {0}

module _ (m : Meaning) (s : Sheet) where
  -- What a job says of its last search: from the run that ends it, and in the verdict of its close.
  pub data Says : Job → Told → Type 0 where
    by_run : {L : Limits} {σ : State} {g : Ground} → Ended (setting m s) L σ g → Says (running L σ) (told s (when_ended σ.best g))
    by_verdict : {L : Limits} {gs : List Ground} {v : Verdict} → Says (closed L gs (Some v)) (told s v.finding)

  -- A running search whose last run answered that it has ended says what it found.
  abbrev pub EndTold : Job → Option Why → Type 0
  EndTold (closed L gs v) w = Unit {0}
  EndTold (running L σ) w = w ≡ Some has_ended → (t : Told) × Says (running L σ) t

  -- The steps of a search, and those that its close reports, are those of its runs added up, and fewer than twice the part-choices.
  abbrev pub FewSteps : List Entry → Job → Type 0
  FewSteps es (closed L gs None) = Unit {0}
  FewSteps es (closed L gs (Some v)) = (v.steps ≡ steps_run es) × (v.steps < 2 * part_choices m (order_of s))
  FewSteps es (running L σ) = (σ.steps ≡ steps_run es) × (σ.steps < 2 * part_choices m (order_of s))

  -- A search is at a part-choice, and its steps lead from its start there, each the one that the rules name where it is made.
  abbrev pub StepsNamed : List Ground → Job → Type 0
  StepsNamed began (closed L gs v) = Unit {0}
  StepsNamed began (running L σ) = Proper (setting m s) σ.part × Runs (setting m s) L σ.steps (start (setting m s) L began) σ

  -- What holds of a job after the calls of a history.
  pub record Right {es : List Entry} {j : Job} (h : History (setting m s) (limit_of s) es j) : Type 0 where
    -- the limits in force are the sheet's, each replaced by the last limit change taken on its row
    pub limits : limits_of j ≡ limits_after (limit_of s) es
    -- what a search says is true at the limits in force, and its closing ground has the lines of one
    pub saying : (t : Told) → Says j t → TrueAt m s (limits_of j) t
    pub shape : (t : Told) → Says j t → WellTold s t
    -- least or none is said exactly of a search whose last run answered that it has ended
    pub end_said : (t : Told) → Says j t → EndSaid t (last_why es)
    pub end_told : EndTold j (last_why es)
    pub few_steps : FewSteps es j
    pub held : HeldReported j
    pub steps_named : StepsNamed (began_with (setting m s) h) j
    -- if the last call was a run and not refused, it made as many steps as its budget, or fewer and the search has ended or is full
    pub budget : LastBudgetKept (setting m s) es j
    -- every learned ground has the form of one and is true at every list of limits, and all have their space in the ledger
    pub formed : AllByRecursion (WellFormed (setting m s)) (learned_of j)
    pub grounds : AllByRecursion (TrueGround m s) (learned_of j)
    pub space : (length (learned_of j) ≤ most_grounds) × (line_count (learned_of j) ≤ most_lines)

  -- This holds at every time of a history: after the opening, and after each call.
  abbrev pub RightThroughout : {es : List Entry} {j : Job} → History (setting m s) (limit_of s) es j → Type 0
  RightThroughout opened = Right opened
  RightThroughout (called h d) = RightThroughout h × Right (called h d)
