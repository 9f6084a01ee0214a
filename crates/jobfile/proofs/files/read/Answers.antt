use Rattle.std.proofs.Common.{◌^◌, ◌<◌}
use Rattle.std.proofs.ByRecursion.{All-from_get_or}
use Rattle.jobfile.proofs.RightlyRead.{rightly_read}
use Rattle.jobfile.proofs.files.read.Goals as goal

pub returns-clause-right : goal.returns-clause-right
returns-clause-right c =
    let file = c.args.file.now in
    let small = All-from_get_or (λ b. b < 2 ^ 8) file 0 (λ i _. (c.type_inv.file i).fits) in
    rightly_read file small c.read_whole.result c.read_whole.ensures.job c.read_whole.ensures.tables
