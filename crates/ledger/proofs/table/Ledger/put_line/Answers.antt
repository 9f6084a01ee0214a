use Rattle.std.proofs.Common.{◌-◌, arith, length-set}
use Rattle.ledger.proofs.Nears.{near_push}
use Rattle.ledger.proofs.Cuts.{counted, last_index, still_adjoin, put_behind}
use Rattle.ledger.proofs.LowestLevels.{still_lowest}
use Rattle.ledger.proofs.Writes.{written}
use Rattle.ledger.proofs.table.Ledger.put_line.Goals as goal

pub push-requires : goal.push-requires
push-requires c = let lines = counted c.args.self.now in (omega arith, omega arith)

pub invariant_of-self : goal.invariant_of-self
invariant_of-self c =
    let s = c.args.self.now in
    let n = c.len-newest.result - 1 in
    let last = last_index s c.len-newest.result c.requires.open c.len-newest.ensures.value in
    record {
      few_grounds = rw (written s.grounds c.deref_mut.result.now n _ c.deref_mut.ensures.value, length-set) s.few_grounds;
      few_lines = omega (arith, counted s, c.requires.room, c.push.ensures.len);
      adjoin = rw (written s.grounds c.deref_mut.result.now n _ c.deref_mut.ensures.value, c.deref.ensures.0, ← c.len.ensures.value) (still_adjoin s n _ last c.len.result c.min.result (omega (arith, c.len.ensures.value, c.push.ensures.len)));
      near = rw c.push.ensures.items (near_push s.lines.items c.args.line s.near c.requires.near);
      lowest = rw (written s.grounds c.deref_mut.result.now n _ c.deref_mut.ensures.value, c.min.ensures, c.deref.ensures.0, c.len.ensures.value, c.push.ensures.len, c.push.ensures.items) (still_lowest s n _ last c.args.line);
    }

pub returns : goal.returns
returns c =
    let s = c.args.self.now in
    let n = c.len-newest.result - 1 in
    let last = last_index s c.len-newest.result c.requires.open c.len-newest.ensures.value in
    λ older newest was. rw (written s.grounds c.deref_mut.result.now n _ c.deref_mut.ensures.value, c.deref.ensures.0, c.len.ensures.value, c.push.ensures.len, c.push.ensures.items) (put_behind s n _ last c.args.line c.min.result older newest was)
