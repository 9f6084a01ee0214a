-- Numbers in bytes. Assumes nothing.
use Rattle.std.specs.Prelude.{ℕ, ◌+◌, ◌*◌, List, ℤ, slice_index}
use Rattle.std.specs.Int.{w32, cast_signed}

-- The signed number in the four bytes from an index on, the most significant first.
abbrev pub number_at : List ℕ → ℕ → ℤ
number_at bs i = cast_signed w32 (slice_index bs i * 16777216 + slice_index bs (i + 1) * 65536 + slice_index bs (i + 2) * 256 + slice_index bs (i + 3))
