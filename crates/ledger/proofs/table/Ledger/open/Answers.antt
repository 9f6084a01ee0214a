use Rattle.std.proofs.Common.{ℕ, ◌∷◌, [], ◌++◌, length, take, drop, sym, ap, ◌∙◌, arith, ◌≡◌, ◌-◌}
use Rattle.rules.specs.Bounds.{most_places}
use Rattle.ledger.specs.Tables.{adjoin, lowest_level}
use Rattle.ledger.proofs.Cuts.{adjoin_push}
use Rattle.ledger.proofs.LowestLevels.{record_more}
use Rattle.ledger.proofs.table.Ledger.open.Goals as goal

pub invariant_of-self-clause-adjoin : goal.invariant_of-self-clause-adjoin
invariant_of-self-clause-adjoin c =
    let s = c.args.self.now in
    let at = c.len-at.result in
    let more = adjoin_push s.grounds.items (record { start = at; end = at; lowest = most_places }) 0 (length s.lines.items) s.adjoin c.len-at.ensures.value (omega arith) in
    rw c.push.ensures.items (ap (λ (e : ℕ). adjoin (s.grounds.items ++ record { start = at; end = at; lowest = most_places } ∷ []) 0 e) (sym c.len-at.ensures.value) ∙ more)

pub invariant_of-self-clause-lowest : goal.invariant_of-self-clause-lowest
invariant_of-self-clause-lowest c =
    let s = c.args.self.now in
    let at = c.len-at.result in
    let none : at - at ≡ 0 = omega arith in
    rw c.push.ensures.items (record_more s.lines.items s.grounds.items (record { start = at; end = at; lowest = most_places }) s.lowest (sym (ap (λ n. lowest_level (take n (drop at s.lines.items))) none)))
