-- A job of which only the counts and the cap are known. Assumes nothing.
use Rattle.std.specs.Prelude.{◌≡◌, ℕ, ◌+◌, [], replicate, ℤ}
use Rattle.rules.specs.Bounds.{most_places, greatest_row}
use Rattle.rules.specs.Sheets.{blank_row}
use Rattle.jobfile.specs.declared.job.Job.{Job}
use Rattle.jobfile.specs.CallTables.{calls_of}

-- No place and no call has come, which follow the order.
pub record BeforeOrder (j : Job) : Type 0 where
  pub none_listed : j.listing.places.items ≡ []
  pub no_ladder : j.ladder.places.items ≡ []
  pub no_call : calls_of j.calls ≡ []

-- The counts, the cap, and nothing after them.
pub record Begun (end places last_row : ℕ) (top : ℤ) (j : Job) : Type 0 where
  pub sheet : j.sheet ≡ record { places = places; last_row = last_row; cap = top; rows = replicate greatest_row blank_row; order = replicate most_places 0 }
  pub listing_end : j.listing.end ≡ end
  pub listing_rows : j.listing.rows ≡ last_row + 1
  pub ladder_rows : j.ladder.rows ≡ last_row + 1
  pub nothing_after : BeforeOrder j
