use Rattle.search.specs.States.{chosen_from, force, part_in, grounds}
use Rattle.search.proofs.Standing.{first_passes}
use Rattle.search.proofs.search.Search.standing.Goals as goal

pub returns-clause-passed : goal.returns-clause-passed
returns-clause-passed c =
    let s = c.args.self.now in
    first_passes (chosen_from s) (force s) (part_in s s.part) (grounds s) c.first_standing.result c.first_standing.ensures.first c.first_standing.ensures.there
