-- The worked examples, computed. Assumes nothing.
use Rattle.std.proofs.Common.{refl}
use Rattle.rules.specs.Openings.{opening}
use Rattle.rules.specs.Grounds.{learn_from}
use Rattle.rules.specs.Search.{next}
use Rattle.rules.specs.Calls.{reply}
use Rattle.rules.specs.Records.{asked}
use Rattle.rules.specs.Examples.{ExamplesHold}

pub examples_hold : ExamplesHold
unfolding opening learn_from next reply asked
examples_hold = (refl, (refl, (refl, (refl, (refl, (refl, (refl, (refl, (refl, (refl, tt))))))))))
