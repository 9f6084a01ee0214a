use Rattle.std.proofs.Common.{◌≡◌, [], ◌∷◌, ◌++◌, take}
use Rattle.ledger.specs.Model.{held}
use Rattle.ledger.proofs.table.Ledger.push.Given as goal

abbrev pub invariant-loop-line : goal.invariant-loop-line
invariant-loop-line l = held l.self ≡ held l.fn.self ++ take l.line-index l.ground ∷ []
