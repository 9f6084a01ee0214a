-- What a draft and a ledger answer to what is put in. Assumes nothing.
use Rattle.std.specs.Prelude.{ℕ, List, Result, codes}
use Rattle.rules.specs.declared.lines.Line.{Line}
use Rattle.rules.specs.Grounds.{Ground}
use Rattle.rules.specs.Refusals.{done_if, where_holds}
use Rattle.rules.specs.Search.{room}
use Rattle.ledger.specs.Lines.{near, all_near}
use Rattle.ledger.specs.declared.unheld.Unheld.{Unheld}
use Rattle.ledger.specs.declared.unheld.Unheld.TheVariants.{NoSpace, FarLine}

-- A draft takes the lines that the tables hold.
abbrev pub put_answer : Line → Result (Unit {0}) Unheld
put_answer l = done_if (near l) FarLine

-- A ledger takes a ground that has its space, if the tables hold each of its lines.
abbrev pub push_answer : List Ground → Ground → Result (Unit {0}) Unheld
push_answer learned g = where_holds (room learned g) NoSpace (done_if (all_near g) FarLine)

-- What stands in a message.
abbrev pub unheld_text : Unheld → List ℕ
unheld_text NoSpace = codes "the ledger has no space for the ground"
unheld_text FarLine = codes "a line that no table holds"
