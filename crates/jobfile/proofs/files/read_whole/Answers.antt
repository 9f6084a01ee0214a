use Rattle.std.proofs.Common.{length, Ok, Err, sym, ap, ◌∙◌, arith}
use Rattle.std.proofs.lemmas.Result.{err_from_is_err_and}
use Rattle.jobfile.specs.Jobs.{says}
use Rattle.jobfile.specs.Reading.{finish}
use Rattle.jobfile.specs.Readers.{front_of}
use Rattle.jobfile.proofs.WholeReads.{by_fields, from_front, too_long}
use Rattle.jobfile.proofs.files.read_whole.Goals as goal

pub returns-then-file-gt-MOST_BYTES-clause-job : goal.returns-then-file-gt-MOST_BYTES-clause-job
returns-then-file-gt-MOST_BYTES-clause-job c = too_long c.args.file.now c.fault_at.result (omega arith) c.fault_at.ensures

pub returns-in_err-read_fields-clause-job : goal.returns-in_err-read_fields-clause-job
returns-in_err-read_fields-clause-job c =
    let file = c.args.file.now in
    let r = c.new-reader.result in
    let p = err_from_is_err_and c.from_residual.result c.from_residual.ensures.1 in
    let begins = from_front file r.file.now r.at (front_of r) c.new-reader.ensures.file c.new-reader.ensures.at c.new-reader.ensures.front in
    rw (p.1, p.2) (by_fields file (Err c.in_err-read_fields.field-0.0) (omega arith) (c.in_err-read_fields.ensures.fields ∙ begins))

pub returns-clause-job : goal.returns-clause-job
returns-clause-job c =
    let file = c.args.file.now in
    let r = c.new-reader.result in
    let after = c.read_fields.new.self in
    let begins = from_front file r.file.now r.at (front_of r) c.new-reader.ensures.file c.new-reader.ensures.at c.new-reader.ensures.front in
    let did = c.in_ok-read_fields.ensures in
    let end = did.end in
    ap (λ xs. says xs c.finish.result) (sym (end.same ∙ c.new-reader.ensures.file))
    ∙ c.finish.ensures.job
    ∙ ap (finish (front_of after)) (end.ends ∙ ap length c.new-reader.ensures.file)
    ∙ by_fields file (Ok (front_of after)) (omega arith) (did.fields ∙ begins)
