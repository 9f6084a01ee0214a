use Rattle.std.proofs.Common.{rules}
use Rattle.std.proofs.lemmas.List.Sorted.{answers_always}
use Rattle.ledger.proofs.Places.{searched}
use Rattle.ledger.proofs.draft.Draft.place_of.Goals as goal

-- the closure gives a line's row and level, and the slice is the draft's lines
pub returns : goal.returns
returns c =
    let d = c.args.self.now in
    let facts = c.binary_search_by_key.ensures in
    let by_place = facts.position (λ b. (b.row, b.level)) (answers_always _ _ _ (λ f a r g called. search rules)) in
    rw (← c.deref.ensures.0) (searched c.args.line _ (rw c.deref.ensures.0 d.ordered) _ facts.bound by_place)
