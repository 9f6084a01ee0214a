use Rattle.std.proofs.Common.{◌<◌, length, drop, ap, ◌∙◌, subst, arith}
use Rattle.std.proofs.lemmas.Result.{err_from_is_err_and}
use Rattle.jobfile.specs.Reading.{read_field}
use Rattle.jobfile.specs.Readers.{MovedOn, front_of}
use Rattle.jobfile.proofs.FieldLoops.{field_fails, field_more, fields_end}
use Rattle.jobfile.proofs.reader.Reader.read_fields.Goals as goal

pub loop-self-preserved : goal.loop-self-preserved
loop-self-preserved c =
    let s = c.loop-self.invariant in
    let r = c.loop-self.self in
    let did = c.in_ok-read_field.ensures in
    let file = c.args.self.now.file.now in
    let before : r.at < length file = omega (arith, ap length s.same) in
    field_more file _ r before c.read_field.new.self s
    (did.field ∙ ap (λ xs. read_field (front_of r) (drop r.at xs) r.at) s.same)
    (subst (λ xs. MovedOn xs r.at c.read_field.new.self) s.same did.moved)

pub returns-in_err-read_field-clause-fields : goal.returns-in_err-read_field-clause-fields
returns-in_err-read_field-clause-fields c =
    let s = c.loop-self.invariant in
    let r = c.loop-self.self in
    let p = err_from_is_err_and c.from_residual.result c.from_residual.ensures.1 in
    let file = c.args.self.now.file.now in
    let before : r.at < length file = omega (arith, ap length s.same) in
    rw (p.1, p.2) (field_fails file _ r before c.in_err-read_field.field-0.0 c.read_field.new.self s (c.in_err-read_field.ensures.field ∙ ap (λ xs. read_field (front_of r) (drop r.at xs) r.at) s.same))

pub returns-clause-fields : goal.returns-clause-fields
returns-clause-fields c =
    let s = c.loop-self.invariant in
    fields_end c.args.self.now.file.now _ c.loop-self.self (omega (arith, ap length s.same)) s
