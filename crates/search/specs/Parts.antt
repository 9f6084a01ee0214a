-- A part-choice of the rules in its table. Assumes nothing.
use Rattle.std.specs.Prelude.{ℕ, ◌+◌, List, take, drop}
use Rattle.rules.specs.Grounds.{Part}
use Rattle.search.specs.declared.part as declared

-- The versions at so many positions, the open ones too.
abbrev pub versions_of : ℕ → declared.Part.Part → List ℕ
versions_of places p = take places p.versions

-- The part-choice of so many places.
abbrev pub part_of : ℕ → declared.Part.Part → Part
part_of places p = drop p.opened (versions_of places p)

-- The part-choice of the positions above one, which goes by its index from 0.
abbrev pub above : ℕ → declared.Part.Part → ℕ → Part
above places p index = drop (index + 1) (versions_of places p)
