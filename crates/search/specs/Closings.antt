-- A closing ground in its table. Assumes nothing.
use Rattle.std.specs.Prelude.{take}
use Rattle.rules.specs.Grounds.{Ground}
use Rattle.search.specs.declared.closing.Closing.{Closing}

-- The lines of a closing ground.
abbrev pub closing_of : Closing → Ground
closing_of c = take c.count c.lines
