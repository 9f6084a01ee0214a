use Rattle.std.proofs.Common.{◌≡◌, ◌+◌, ◌-◌, ◌*◌, length, get_or, take, drop, sym, ap, ◌∙◌, arith, rules}
use Rattle.std.proofs.lemmas.List.{take_rest}
use Rattle.rules.specs.Sheets.{last_row}
use Rattle.jobfile.specs.Reading.{announced_with}
use Rattle.jobfile.proofs.FieldSteps.{field_step, from_byte}
use Rattle.jobfile.proofs.reader.Reader.read_field.Goals as goal

pub returns-clause-field : goal.returns-clause-field
returns-clause-field c =
    let r = c.args.self.now in
    let did = c.in_ok-field.ensures in
    let rest = from_byte r.file.now c.from.result r.at c.from.ensures in
    let left = ap length rest in
    let xs = take (length r.file.now - c.from.result) (drop c.from.result r.file.now) in
    let bs = drop r.at r.file.now in
    let size = c.from_be_bytes.result in
    let tail = take (length xs - 3) (drop 3 xs) in
    let in_two : size ≡ get_or xs 1 0 * 256 + get_or xs 2 0 = search rules in
    field_step r c.advance.new.self c.in_ok-field.field size tail did.kept c.read_rest.new.self bs c.read_rest.result (omega (arith, c.in-len3-up.len_at_least))
    (in_two ∙ ap (λ xs. get_or xs 1 0 * 256 + get_or xs 2 0) rest)
    (take_rest xs 3 ∙ ap (drop 3) rest)
    (ap (λ xs. announced_with r.rows (last_row r.job.sheet) r.section (get_or xs 0 0)) (sym rest) ∙ did.field)
    c.read_rest.ensures.field
