-- The bounds of job files. Assumes nothing.
use Rattle.std.specs.Prelude.{ℕ}

-- A file has at most so many bytes.
abbrev pub most_bytes : ℕ
most_bytes = 32768

-- No job has a longer writing than this: 16 listed places of 32 versions, 8 rows beside the price, 256 calls.
abbrev pub longest : ℕ
longest = 22876

-- A file has at most so many calls.
abbrev pub most_calls : ℕ
most_calls = 256
