-- Positions and places: a catalogue seen through the order of a sheet, and what a search finds in that order, by place. Assumes nothing.
use Rattle.std.specs.Prelude.{◌≡◌, ℕ, zero, suc, ◌-◌, true, if◌then◌else◌, List, [], ◌∷◌, ◌++◌, map, ℤ, pos, Some, None, Option, ◌==◌, slice_index}
use Rattle.rules.specs.declared.lines.ClosingLine.{ClosingLine}
use Rattle.rules.specs.declared.sheets.Sheet.{Sheet}
use Rattle.rules.specs.Catalogues.{Meaning, has_place, has_amount}
use Rattle.rules.specs.Sheets.{Limits, last_row, joining_of, order_of}
use Rattle.rules.specs.Choices.{Told, says_least, says_none, says_full, says_unfinished, version, Choice, Keeps}
use Rattle.rules.specs.Grounds.{Setting, Part, Ground, stands}
use Rattle.rules.specs.Calls.{Finding, least, nothing, filled, unfinished, Verdict}

-- The versions of a place, and 0 outside the meaning.
abbrev pub versions_in : Meaning → ℕ → ℕ
versions_in m q = if has_place m q then m.versions q else 0

-- An amount, and 0 outside the meaning.
abbrev pub amount_in : Meaning → ℕ → ℕ → ℕ → ℤ
amount_in m row q v = if has_amount m row q v then m.amount row q v else pos 0

-- The place at a position of an order.
abbrev pub place_at : List ℕ → ℕ → ℕ
place_at order p = slice_index order (p - 1)

-- A catalogue seen through the order of a sheet.
abbrev pub setting : Meaning → Sheet → Setting
setting m s =
    record {
      places = s.places;
      last_row = last_row s;
      joining = joining_of s;
      versions = λ p. versions_in m (place_at (order_of s) p);
      amount = λ row p v. amount_in m row (place_at (order_of s) p) v;
    }

-- A choice by place, as the versions at the positions of the sheet's order.
abbrev pub by_position : Sheet → List ℕ → Part
by_position s c = map (version c) (order_of s)

-- The version of a place, among versions that go by the order.
abbrev pub version_in : List ℕ → Part → ℕ → ℕ
version_in [] c q = 0
version_in (x ∷ order) [] q = 0
version_in (x ∷ order) (v ∷ c) q = if x == q then v else version_in order c q

-- The versions of the places from 1 up to one.
abbrev pub versions_to : List ℕ → Part → ℕ → List ℕ
versions_to order c zero = []
versions_to order c (suc q) = versions_to order c q ++ (version_in order c (suc q) ∷ [])

-- The choice whose versions, at the positions of the sheet's order, are these.
abbrev pub by_place : Sheet → Part → List ℕ
by_place s c = versions_to (order_of s) c s.places

-- The best choice, if there is one, by place.
abbrev pub best_by_place : Sheet → Option Part → Option (List ℕ)
best_by_place s None = None
best_by_place s (Some c) = Some (by_place s c)

-- The lines of a ground that lies above all positions.
abbrev pub closing_lines : Ground → List ClosingLine
closing_lines g = map (λ l. record { row = l.row; constant = l.constant }) g

-- What a search found, by place.
abbrev pub told : Sheet → Finding → Told
told s (least c g) = says_least (by_place s c) (closing_lines g)
told s (nothing g) = says_none (closing_lines g)
told s (filled best) = says_full (best_by_place s best)
told s (unfinished best) = says_unfinished (best_by_place s best)

-- What can be read off a verdict: what is said, the steps, and how many learned grounds the job holds.
pub record Seen : Type 0 where
  pub says : Told
  pub steps : ℕ
  pub held : ℕ

-- What can be read off this verdict.
abbrev pub seen : Sheet → Verdict → Seen
seen s v = record { says = told s v.finding; steps = v.steps; held = v.held }

-- A ground is true: at whatever limits it stands at a choice, the choice doesn't keep them.
abbrev pub TrueGround : Meaning → Sheet → Ground → Type 0
TrueGround m s g = (M : Limits) (c : List ℕ) → Choice m s c → stands (setting m s) M (by_position s c) g ≡ true → Keeps m s M c → ⊥
