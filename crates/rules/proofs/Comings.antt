-- One call more on a job that calls have led to. Assumes nothing.
use Rattle.std.proofs.Common.{List, ◌∷◌}
use Rattle.rules.specs.declared.sheets.Sheet.{Sheet}
use Rattle.rules.specs.Catalogues.{Meaning}
use Rattle.rules.specs.Calls.{Call, reply}
use Rattle.rules.specs.Histories.{Entry, called}
use Rattle.rules.specs.Settings.{setting}
use Rattle.rules.specs.KeptJobs.{CameBy, KeptJob, faultless, faulty, job_by}
use Rattle.rules.proofs.Replies.{call_law}

-- the job after it has come about by calls too
pub came_on : (m : Meaning) (s : Sheet) (es : List Entry) (k : KeptJob) (c : Call) → CameBy m s es k → (fs : List Entry) × CameBy m s fs (job_by (setting m s) k c)
came_on m s es (faulty f) c h = (es, h)
came_on m s es (faultless j) c h = (record { call = c; answer = (reply (setting m s) j c).answer } ∷ es, (h.0, called h.1 (call_law (setting m s) j c).0))
