use Rattle.std.proofs.Common.{List, get_or, set, sym, refl, ap, ◌∙◌, arith}
use Rattle.std.specs.List.{insert}
use Rattle.std.proofs.lemmas.List.Edits.{length-insert}
use Rattle.rules.specs.declared.lines.Line.{Line}
use Rattle.rules.specs.Grounds.{kept}
use Rattle.ledger.specs.Lines.{no_line}
use Rattle.ledger.specs.Drafted.{drafted}
use Rattle.ledger.proofs.Nears.{near_since}
use Rattle.ledger.proofs.Writes.{written}
use Rattle.ledger.proofs.Drafting.{of_joining, more_near, more_rising, more_few}
use Rattle.ledger.proofs.draft.Draft.put.Goals as goal

pub invariant_of-self : goal.invariant_of-self
invariant_of-self g c =
    let S = of_joining g.J.Joining.rule in
    let d = c.args.self.now in
    let new = near_since c.args.line (sym c.if-not-is_near.ensures) in
    let best = c.kept.ensures S refl ∙ ap (λ (ls : List Line). kept S c.args.line (get_or ls c.in-Ok.at no_line)) c.deref.ensures.0 in
    let is = written d.lines c.deref_mut.result.now c.in-Ok.at c.kept.result c.deref_mut.ensures.value ∙ ap (set (drafted d) c.in-Ok.at) best ∙ c.in-Ok.ensures.found.kept_there S in
    record { near = more_near S c.args.line (drafted d) _ new d.near d.ordered is; ordered = more_rising S c.args.line (drafted d) _ new d.near d.ordered is }

pub insert-requires : goal.insert-requires
insert-requires g c =
    let S = of_joining g.J.Joining.rule in
    let d = c.args.self.now in
    let new = near_since c.args.line (sym c.if-not-is_near.ensures) in
    let to = c.in-Err.ensures.absent in
    let few = more_few S c.args.line (drafted d) (insert (drafted d) c.in-Err.at c.args.line) new d.near d.ordered (to.put_there S) in
    (omega arith, (to.there, omega (arith, few, length-insert (drafted d) c.in-Err.at c.args.line to.there)))

pub invariant_of-self-in-Err : goal.invariant_of-self-in-Err
invariant_of-self-in-Err g c =
    let S = of_joining g.J.Joining.rule in
    let d = c.args.self.now in
    let new = near_since c.args.line (sym c.if-not-is_near.ensures) in
    let is = c.insert.ensures.items ∙ c.in-Err.ensures.absent.put_there S in
    record { near = more_near S c.args.line (drafted d) _ new d.near d.ordered is; ordered = more_rising S c.args.line (drafted d) _ new d.near d.ordered is }
