-- What a look at the versions of a place finds. Assumes nothing.
use Rattle.std.specs.Prelude.{◌≡◌, ℕ, ◌-◌, ◌≤◌, List, [], ◌∷◌, drop, slice_index, slice_index_or}
use Rattle.rules.specs.Grounds.{Part, first_standing}
use Rattle.search.specs.States.{chosen_from, force, grounds, above, pick_of}
use Rattle.search.specs.declared.search.Search.{Search}

-- The first ground that stands at a part-choice is none of so many first ones.
abbrev pub Passed : Search → Part → ℕ → Type 0
Passed s c k =
    first_standing (chosen_from s) (force s) (grounds s) c ≡ first_standing (chosen_from s) (force s) (drop k (grounds s)) c

-- So it is with the version that a place has now.
abbrev pub PassedAt : Search → ℕ → ℕ → Type 0
PassedAt s index k = Passed s (slice_index s.part.versions index ∷ above s index) k

-- For each version up to one the table has the index of the first ground that stands with it put on t.
abbrev pub StoodTo : Search → Part → ℕ → List ℕ → Type 0
StoodTo s t last found = (v : ℕ) → 1 ≤ v → v ≤ last → slice_index_or (grounds s) (slice_index found (v - 1)) [] ≡ pick_of s t v
