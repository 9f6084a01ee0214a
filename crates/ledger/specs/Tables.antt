-- How the tables of a ledger are read. Assumes nothing.
use Rattle.std.specs.Prelude.{◌≡◌, ℕ, Bool, ◌&&◌, ◌==◌, nat_le, min, List, [], ◌∷◌, map, slice_range}
use Rattle.rules.specs.declared.lines.Line.{Line}
use Rattle.rules.specs.Bounds.{most_places}
use Rattle.rules.specs.Grounds.{Ground}
use Rattle.ledger.specs.declared.records.GroundRecord.{GroundRecord}

-- The lines of a ground, cut out of the table.
abbrev pub cut : List Line → GroundRecord → Ground
cut lines g = slice_range lines g.start g.end

-- The grounds of some records, oldest first.
abbrev pub grounds_of : List Line → List GroundRecord → List Ground
grounds_of lines records = map (cut lines) records

-- The lines of each ground begin where those of the one before end; together they reach from one index to another.
abbrev pub adjoin : List GroundRecord → ℕ → ℕ → Bool
adjoin [] from to = from == to
adjoin (g ∷ gs) from to = g.start == from && nat_le from g.end && adjoin gs g.end to

-- The lowest level among the lines of a ground; that of no line is the highest that there can be.
abbrev pub lowest_level : Ground → ℕ
lowest_level [] = most_places
lowest_level (l ∷ g) = min l.level (lowest_level g)

-- Each record has the lowest level of its ground.
abbrev pub Lowest : List Line → List GroundRecord → Type 0
Lowest lines records = map (λ (g : GroundRecord). g.lowest) records ≡ map lowest_level (grounds_of lines records)
