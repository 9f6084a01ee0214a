-- Where a line belongs among others. Assumes nothing.
use Rattle.std.specs.Prelude.{◌≡◌, ℕ, suc, ◌*◌, ◌<◌, ◌≤◌, Bool, true, ◌&&◌, [], ◌∷◌, length, slice_index_or, slice_set, insert}
use Rattle.std.specs.List.{list_all}
use Rattle.rules.specs.declared.lines.Line.{Line}
use Rattle.rules.specs.Bounds.{most_places, most_rows}
use Rattle.rules.specs.Grounds.{Setting, Ground, before, kept, with_line}
use Rattle.ledger.specs.Lines.{no_line}

-- A ground has at most a line for each row and level that there can be.
abbrev pub most_drafted : ℕ
most_drafted = most_rows * suc most_places

-- Each line comes before all later ones.
abbrev pub rising : Ground → Bool
rising [] = true
rising (a ∷ g) = list_all (before a) g && rising g

-- A line is put in by keeping it, or the line at an index, at that index.
pub record Meets (g : Ground) (a : Line) (at : ℕ) : Type 0 where
  pub there : at < length g
  pub kept_there : (S : Setting) → slice_set g at (kept S a (slice_index_or g at no_line)) ≡ with_line S a g

-- A line is put in at an index, and the lines from there on move up.
pub record Between (g : Ground) (a : Line) (at : ℕ) : Type 0 where
  pub there : at ≤ length g
  pub put_there : (S : Setting) → insert g at a ≡ with_line S a g
