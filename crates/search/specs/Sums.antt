-- What the amounts above a level come to, as a search keeps it by level and row. Assumes nothing.
use Rattle.std.specs.Prelude.{◌≡◌, ℕ, ◌<◌, ◌≤◌, List, [], ◌∷◌, drop, replicate, refl, ℤ, pos, Some, None, Option, slice_index_or}
use Rattle.rules.specs.Bounds.{most_rows}
use Rattle.rules.specs.Joinings.{Joining}
use Rattle.rules.specs.Grounds.{Part, Setting, part_total}
use Rattle.search.specs.Settings.{setting}
use Rattle.search.specs.Parts.{versions_of}
use Rattle.search.specs.declared.part as declared
use Rattle.search.specs.declared.grid.Grid.{Grid}
use Rattle.search.specs.declared.sums.RowSums.{RowSums}

-- A constant with what is above it joined on, if anything is.
abbrev pub joined_onto : Joining → ℤ → Option ℤ → ℤ
joined_onto J k None = k
joined_onto J k (Some sum) = J.join k sum

-- What a row's amounts at the positions of a part-choice come to, if it has any.
abbrev pub total_above : Setting → ℕ → Part → Option ℤ
total_above S row [] = None
total_above S row (v ∷ t) = Some (part_total S row (v ∷ t))

-- The sums of a level that there is not.
abbrev pub no_sums : RowSums
no_sums = record { rows = replicate most_rows (pos 0); long = refl }

-- The sum that stands in a table at a level and row.
abbrev pub sum_at : List RowSums → ℕ → ℕ → ℤ
sum_at sums level row = slice_index_or (slice_index_or sums level no_sums).rows row (pos 0)

-- The sums of each row are the totals of a part-choice.
abbrev pub Totals : Setting → Part → RowSums → Type 0
Totals S c sums = (row : ℕ) → row < most_rows → slice_index_or sums.rows row (pos 0) ≡ part_total S row c

-- From a level up to the number of places each level has the totals of the positions above it.
abbrev pub SummedFrom : ℕ → Grid → declared.Part.Part → List RowSums → Type 0
SummedFrom from g p sums = (level : ℕ) → from ≤ level → level ≤ g.places → Totals (setting g) (drop level (versions_of g.places p)) (slice_index_or sums level no_sums)
