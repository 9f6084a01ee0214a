-- A search of the rules in its tables. Assumes nothing.
use Rattle.std.specs.Prelude.{◌≡◌, ℕ, suc, replicate, None, ◌+◌, if◌then◌else◌, List, [], ◌∷◌, ℤ, pos, Option, ◌==◌, slice_index_or}
use Rattle.std.specs.Option.{option_map}
use Rattle.rules.specs.declared.lines.Line.{Line}
use Rattle.rules.specs.Bounds.{most_places}
use Rattle.rules.specs.Sheets.{Limits}
use Rattle.rules.specs.Choices.{capped}
use Rattle.rules.specs.Grounds.{Setting, Part, Ground, with_amount, ledger, first_standing, ground_in}
use Rattle.rules.specs.Search.{State}
use Rattle.ledger.specs.Model.{held}
use Rattle.search.specs.Settings.{setting}
use Rattle.search.specs.Parts as parts
use Rattle.search.specs.declared.part as declared
use Rattle.search.specs.declared.pick.Pick.{Pick}
use Rattle.search.specs.declared.search.Search.{Search}

-- A table of limits as limits of the rules.
abbrev pub limits_of : List ℤ → Limits
limits_of limits r = slice_index_or limits r (pos 0)

-- What a search chooses from.
abbrev pub chosen_from : Search → Setting
chosen_from s = setting s.grid

-- The limits of the job.
abbrev pub job_limits : Search → Limits
job_limits s = limits_of s.limits

-- The limits in force, with the cap of the search.
abbrev pub force : Search → Limits
force s = capped (job_limits s) s.cap

-- The starting grounds, then the learned ones.
abbrev pub grounds : Search → List Ground
grounds s = ledger (chosen_from s) (held s.ledger)

-- The part-choice of a table, in this search.
abbrev pub part_in : Search → declared.Part.Part → Part
part_in s p = parts.part_of s.grid.places p

-- The part-choice of the positions above one, which goes by its index from 0.
abbrev pub above : Search → ℕ → Part
above s index = parts.above s.grid.places s.part index

-- The best choice, if there is one, with so many places.
abbrev pub best_of : ℕ → Option declared.Part.Part → Option Part
best_of places best = option_map (parts.part_of places) best

-- The best choice of a search, if there is one.
abbrev pub best_in : Search → Option declared.Part.Part → Option Part
best_in s best = best_of s.grid.places best

-- The state that a search is in.
abbrev pub state_of : Search → State
state_of s = record { part = part_in s s.part; best = best_in s s.best; cap = s.cap; steps = s.steps; learned = held s.ledger }

-- The ground at an index of a list, if an index was found.
abbrev pub picked : List Ground → Option ℕ → Option Ground
picked gs found = option_map (λ i. slice_index_or gs i []) found

-- A line as it is learned at a position from a ground that stands with a version there.
abbrev pub moved_at : Setting → ℕ → ℕ → Line → Line
moved_at S p v l =
    if suc l.level == p
    then record { row = l.row; level = p; constant = with_amount S l.row p v l.constant }
    else l

-- A line as it is learned with a picked version.
abbrev pub moved_with : Setting → Pick → Line → Line
moved_with S pick l = moved_at S (pick.index + 1) pick.version l

-- The first ground that stands with a version put on t, and no line where none does.
abbrev pub pick_of : Search → Part → ℕ → Ground
pick_of s t v = ground_in (first_standing (chosen_from s) (force s) (grounds s) (v ∷ t))

-- Two searches choose from one grid, under the same limits.
abbrev pub SameJob : Search → Search → Type 0
SameJob s t = (s.grid ≡ t.grid) × (s.limits ≡ t.limits)

-- Two searches have come equally far.
abbrev pub SameCourse : Search → Search → Type 0
SameCourse s t = (s.part ≡ t.part) × (s.best ≡ t.best) × (s.cap ≡ t.cap) × (s.steps ≡ t.steps)

-- A search has not begun: all places are open, version 1 stands everywhere, and nothing is found.
abbrev pub AtRest : Search → Type 0
AtRest s = (s.part.versions ≡ replicate most_places 1) × (s.part.opened ≡ s.grid.places) × (s.best ≡ None) × (s.steps ≡ 0)

-- But for the part-choice, two searches are the same.
abbrev pub SameBut : Search → Search → Type 0
SameBut s t = SameJob s t × (s.ledger ≡ t.ledger) × (s.best ≡ t.best) × (s.cap ≡ t.cap) × (s.steps ≡ t.steps)
