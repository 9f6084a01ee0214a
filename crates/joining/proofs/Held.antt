-- Numbers within the range of 64 bits are held as they are. Assumes nothing.
use Rattle.std.proofs.Common.{◌≡◌, ◌^◌, ◌<◌, ℤ, pos, negsuc, nat_abs, ap, arith}
use Rattle.joining.specs.Held.{held_in_64}

pub held_near : (z : ℤ) → nat_abs z < 2 ^ 63 → held_in_64 z ≡ z
held_near (pos n) h = ap pos (omega arith)
held_near (negsuc n) h = ap negsuc (omega arith)
