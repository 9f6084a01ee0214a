use Rattle.std.proofs.Common.{rules, arith, ◌-◌, ◌≤◌, All, sym, subst}
use Rattle.catalogue.specs.Listed.{next_start, no_listed}
use Rattle.catalogue.proofs.Fields.{amount_within}
use Rattle.catalogue.proofs.listed.ListedCatalogue.amount.Goals as goal

pub amount_start-at-requires : goal.amount_start-at-requires
amount_start-at-requires c =
    let l = c.args.self.now.listing in
    let found = c.in_ok-chosen.ensures in
    let each = subst (All (λ p. next_start l.rows p ≤ l.end)) (sym c.deref.ensures.0) l.within in
    let ends = subst (λ p. next_start l.rows p ≤ l.end) (found.2 no_listed) (each (c.args.place - 1) no_listed (omega (arith, found.0, found.1))) in
    let within = amount_within l.rows c.in_ok-chosen.chosen.now c.args.row c.args.version (omega arith) (search rules) (search rules) in
    omega arith
