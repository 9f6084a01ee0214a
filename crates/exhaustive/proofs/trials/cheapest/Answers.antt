use Rattle.std.proofs.Common.{◌≡◌, Ok, rules}
use Rattle.exhaustive.specs.Trials.{answer}
use Rattle.exhaustive.proofs.RightAnswers.{right_where}
use Rattle.exhaustive.proofs.trials.cheapest.Goals as goal

pub returns-clause-right : goal.returns-clause-right
returns-clause-right g c =
    let m = g.C.Catalogue.meaning c.args.catalogue.now in
    let is : Ok c.try_last.result ≡ answer m c.args.sheet.now = search rules in
    right_where m (g.met.C.Catalogue.sound c.args.catalogue.now) _ _ is
