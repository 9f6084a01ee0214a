-- What is tried at a place of a search. Assumes nothing.
use Rattle.std.specs.Prelude.{ℕ, ◌+◌, Bool, List, Option}
use Rattle.rules.specs.declared.lines.Line.{Line}
use Rattle.rules.specs.Grounds.{Part, Ground, line_stands, stands, first_standing}
use Rattle.search.specs.States.{chosen_from, force, part_in, above}
use Rattle.search.specs.declared.search.place.Place.{Place}
use Rattle.search.specs.declared.search.trial.Trial.{Trial}

-- The part-choice that is tried.
abbrev pub tried : Trial → Part
tried t = part_in t.search.now t.part

-- A line stands there.
abbrev pub line_holds : Trial → Line → Bool
line_holds t l = line_stands (chosen_from t.search.now) (force t.search.now) (tried t) l

-- A ground stands there.
abbrev pub holds : Trial → Ground → Bool
holds t g = stands (chosen_from t.search.now) (force t.search.now) (tried t) g

-- The first of some grounds that stands there.
abbrev pub first_at : Trial → List Ground → Option Ground
first_at t gs = first_standing (chosen_from t.search.now) (force t.search.now) gs (tried t)

-- The part-choice of the positions above a place.
abbrev pub above_place : Place → Part
above_place p = above p.search.now p.index

-- How many versions a place has.
abbrev pub versions_at : Place → ℕ
versions_at p = (chosen_from p.search.now).versions (p.index + 1)
