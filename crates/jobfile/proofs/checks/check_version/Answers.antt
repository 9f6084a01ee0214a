use Rattle.std.specs.Prelude.{slice_index, nat_le}
use Rattle.std.proofs.Common.{◌≡◌, suc, ◌&&◌, true, ◌+◌, ◌*◌, ◌∙◌, arith, rules}
use Rattle.rules.specs.Numbers.{number_at}
use Rattle.jobfile.specs.Reading.{amount_in}
use Rattle.jobfile.proofs.Codec.{amount_at}
use Rattle.jobfile.proofs.checks.check_version.Goals as goal

pub returns : goal.returns
returns c =
    let m = c.args.sheet.now.last_row in
    let bs = c.args.body.now in
    let e = c.check_amounts.ensures (amount_in m bs) (λ row z l k. (let here : z ≡ number_at bs (1 + 4 * row) = search rules in here) ∙ amount_at m row bs (omega arith)) in
    let n = c.args.sheet.now.places in
    let listed = c.args.listed in
    let q = slice_index bs 0 in
    let turn : (nat_le 1 q && (nat_le q n && (nat_le listed q && nat_le q (suc listed)))) ≡ true = search rules in
    rw turn (search rules)
