-- What the body of a ladder field says, in memory. Assumes nothing.
use Rattle.std.specs.Prelude.{ℕ, suc, ℤ}
use Rattle.jobfile.specs.declared.bodies.LadderBody.{LadderBody}
use Rattle.jobfile.specs.InMemory.{rungs_of}
use Rattle.jobfile.specs.Stated.{rung_amount}

-- The amount of a row in a version.
abbrev pub amount_of : LadderBody → ℕ → ℕ → ℤ
amount_of b v r = rung_amount (rungs_of (suc b.last_row) b.rungs) v r
