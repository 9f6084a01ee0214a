use Rattle.std.proofs.Common.{arith}
use borrow.Author.Differences.{ints}
use Rattle.search.proofs.Stacks.{read_near}
use Rattle.search.proofs.search.Search.price.Goals as goal

pub returns-clause-near : goal.returns-clause-near
returns-clause-near c =
    let s = c.args.self.now in
    let near = read_near s 0 (omega (arith, c.requires)) (omega arith) c.index-self-0.result 0 (omega arith) in
    omega (arith, ints, near)
