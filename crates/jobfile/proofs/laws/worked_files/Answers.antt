use Rattle.jobfile.proofs.WorkedFiles.{files_hold}
use Rattle.jobfile.proofs.laws.worked_files.Goals as goal

pub returns : goal.returns
returns c = files_hold
