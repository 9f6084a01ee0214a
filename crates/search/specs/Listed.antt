-- The grounds of a search as they are lent. Assumes nothing.
use Rattle.rules.specs.Grounds as rules
use Rattle.search.specs.declared.search.grounds.Ground.{Ground}
use Rattle.search.specs.declared.search.grounds.Ground.TheVariants.{Starting, Learned}

-- The lines of a ground.
abbrev pub lines_of : Ground → rules.Ground
lines_of (Starting line) = line
lines_of (Learned lines) = lines.now
