-- What a ledger holds. Assumes nothing.
use Rattle.std.specs.Prelude.{Bool, ◌&&◌, List}
use Rattle.rules.specs.Grounds.{Ground}
use Rattle.rules.specs.Search.{room}
use Rattle.ledger.specs.Lines.{all_near}
use Rattle.ledger.specs.Tables.{grounds_of}
use Rattle.ledger.specs.declared.table.Ledger.{Ledger}

-- The learned grounds that a ledger holds, oldest first.
abbrev pub held : Ledger → List Ground
held l = grounds_of l.lines.items l.grounds.items

-- A ground is taken where there is space for it, and each of its lines is one that the tables hold.
abbrev pub takes : List Ground → Ground → Bool
takes learned g = room learned g && all_near g
