-- Numbers held within 64 bits. Assumes nothing.
use Rattle.std.specs.Prelude.{ℤ}
use Rattle.std.specs.Int.{saturate_to_bits}

-- A number held within the range of 64 bits: one past an end of the range becomes that end.
abbrev pub held_in_64 : ℤ → ℤ
held_in_64 z = saturate_to_bits 63 z
