-- Every bound of the rules, once. Assumes nothing.
use Rattle.std.specs.Prelude.{ℕ, suc, ◌^◌}

-- A job, and the meaning of a catalogue, has at most so many places.
abbrev pub most_places : ℕ
most_places = 16

-- A place has at most so many versions.
abbrev pub most_versions : ℕ
most_versions = 32

-- Rows are numbered from 0, the price, to at most this.
abbrev pub greatest_row : ℕ
greatest_row = 8

-- A catalogue has at most so many rows, the price among them.
abbrev pub most_rows : ℕ
most_rows = suc greatest_row

-- No amount in the meaning of a catalogue, and no unit, lies further from 0 than this.
abbrev pub amount_reach : ℕ
amount_reach = 2 ^ 40

-- No amount of a job lies further from 0 than this.
abbrev pub greatest_amount : ℕ
greatest_amount = 1000000

-- No limit of a job lies further from 0 than this.
abbrev pub greatest_limit : ℕ
greatest_limit = 20000000

-- At most so many grounds are learned.
abbrev pub most_grounds : ℕ
most_grounds = 512

-- The learned grounds have at most so many lines together.
abbrev pub most_lines : ℕ
most_lines = 2048

-- No search makes more steps than this.
abbrev pub most_steps : ℕ
most_steps = 1000000
