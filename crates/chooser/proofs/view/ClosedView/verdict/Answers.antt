use Rattle.std.proofs.Common.{◌≡◌, IfSome, Option, subst, rules}
use Rattle.std.specs.Option.{option_map}
use Rattle.rules.specs.Calls.{Verdict}
use Rattle.rules.specs.KeptJobs.{faultless}
use Rattle.chooser.specs.Models.{job_of}
use Rattle.rules.specs.Settings.{seen}
use Rattle.ledger.specs.Model.{held}
use Rattle.search.specs.States.{chosen_from, job_limits}
use Rattle.search.specs.Findings.{verdict_with}
use Rattle.chooser.specs.Verdicts.{PricesAsked, seen_in}
use Rattle.chooser.proofs.Comings.{Came, in_opened}
use Rattle.chooser.proofs.Prices.{prices_told}
use Rattle.chooser.proofs.view.ClosedView.verdict.Goals as goal

pub returns-in-Ok-clause-prices : goal.returns-in-Ok-clause-prices
returns-in-Ok-clause-prices g c =
    let j = c.args.self.now.job.now in
    let m = g.C.Catalogue.meaning j.catalogue in
    let closed = c.in-Ok.opened in
    let verdict : Option Verdict = option_map (verdict_with (chosen_from closed.search).places) closed.verdict in
    let same : option_map seen_in c.map.result ≡ option_map (seen j.sheet) verdict = search rules in
    let asked : IfSome c.map.result (λ x. PricesAsked m j.sheet x.says) = search rules in
    prices_told m j.sheet (g.met.C.Catalogue.sound j.catalogue) (job_limits closed.search) (held closed.search.ledger) verdict
    (subst (λ r. Came m j.sheet (faultless (job_of r closed))) c.args.self.now.closed (in_opened m j.sheet j.running _ closed c.in-Ok.is (j.seen, j.came)).1) c.map.result same asked
