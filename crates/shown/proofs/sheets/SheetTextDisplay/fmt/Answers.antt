use Rattle.std.proofs.Common.{rules, append_assoc}
use Rattle.std.proofs.Output.{has_written_append, has_written_of_eq}
use Rattle.shown.proofs.sheets.SheetTextDisplay.fmt.Goals as goal

pub returns-clause-writes : goal.returns-clause-writes
returns-clause-writes g c plain ok =
    let counts = c.writeln.ensures.writes plain (search rules) in
    let price = c.writeln-2.ensures.writes counts.plain (search rules) in
    let rest = c.writeln-3.ensures.writes price.plain ok in
    has_written_of_eq _ _ _ _ _ (simp append_assoc) (has_written_append _ _ _ _ _ _ (has_written_append _ _ _ _ _ _ counts price) rest)
