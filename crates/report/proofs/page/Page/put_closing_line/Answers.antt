use Rattle.std.proofs.Common.{◌≡◌, ◌++◌, codes, decimal, subst, w64, to_z, of_z, arith}
use Rattle.std.specs.Fmt.{signed_decimal}
use Rattle.std.proofs.lemmas.Int.{ints}
use Rattle.report.specs.Writing.{Puts}
use Rattle.report.proofs.Putting.{both_put, then_number}
use Rattle.report.proofs.page.Page.put_closing_line.Goals as goal

pub returns : goal.returns
returns c =
    let line = c.args.line.now in
    let read : to_z w64 (of_z w64 line.constant) ≡ line.constant = omega (arith, ints) in
    subst (λ z. Puts c.args.self.now (codes "BY " ++ decimal line.row ++ codes " " ++ signed_decimal z ++ codes "\n") c.put.new.self) read
    (both_put (then_number (codes " ") _ c.put_number.ensures c.put_number-2.ensures) c.put.ensures)
