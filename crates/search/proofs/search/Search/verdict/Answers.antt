use Rattle.std.proofs.Common.{◌≡◌, ◌∙◌}
use Rattle.search.specs.Findings.{told, finding_of}
use Rattle.search.proofs.GroundShapes.{whole_told}
use Rattle.search.proofs.search.Search.verdict.Goals as goal

pub returns-clause-whole : goal.returns-clause-whole
returns-clause-whole c = λ shaped.
    let s = c.args.self.now in
    let held = c.count.ensures.is in
    let found : finding_of s c.finding.result ≡ (told s).finding = c.finding.ensures ∙ whole_told s shaped in
    cc
