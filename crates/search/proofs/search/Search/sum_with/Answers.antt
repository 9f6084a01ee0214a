use Rattle.std.proofs.Common.{◌≡◌, ◌+◌, ◌<◌, get_or, pos, ap, ◌∙◌, arith, w64, to_z, of_z}
use borrow.Author.Differences.{ints}
use Rattle.rules.specs.Bounds.{most_rows}
use Rattle.rules.specs.Grounds.{with_amount}
use Rattle.search.specs.States.{chosen_from}
use Rattle.search.proofs.Stacks.{totals_read, read_near, total_with}
use Rattle.search.proofs.search.Search.sum_with.Goals as goal

pub joined-requires-clause-near : goal.joined-requires-clause-near
joined-requires-clause-near c =
    let s = c.args.self.now in
    let i = c.args.pick.index in
    let low : c.from.result < most_rows = omega (arith, c.from.ensures, c.requires.row) in
    let near = read_near s (i + 1) c.requires.next (omega (arith, c.requires.there)) c.index-self-pick.result c.from.result low in
    omega (arith, ints, near)

pub returns : goal.returns
returns c =
    let s = c.args.self.now in
    let i = c.args.pick.index in
    let row = c.args.row in
    let v = c.args.pick.version in
    let d = c.index-self-pick.result in
    let x = get_or s.sums (i + 1) d in
    let low : c.args.row < most_rows = omega (arith, c.requires.row) in
    let near = read_near s (i + 1) c.requires.next (omega (arith, c.requires.there)) d row low in
    let out : to_z w64 (of_z w64 c.joined.result) ≡ c.joined.result = omega (arith, ints) in
    let so_far : to_z w64 (of_z w64 (get_or x.rows row (pos 0))) ≡ get_or x.rows row (pos 0) = omega (arith, ints, near) in
    out ∙ c.joined.ensures
    ∙ ap (λ r. with_amount (chosen_from s) row (i + 1) v (to_z w64 (of_z w64 (get_or x.rows r (pos 0))))) c.from.ensures
    ∙ ap (with_amount (chosen_from s) row (i + 1) v) (so_far ∙ totals_read s (i + 1) c.requires.next (omega (arith, c.requires.there)) d row low)
    ∙ total_with s row i v c.requires.there
