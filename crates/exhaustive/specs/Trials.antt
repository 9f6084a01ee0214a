-- How every choice is tried, worked out. Assumes nothing.
use Rattle.std.specs.Prelude.{ℕ, zero, suc, ◌-◌, Bool, true, if◌then◌else◌, not, ◌&&◌, List, replicate, ℤ, Some, None, Ok, Err, Option, Result, int_lt, slice_set}
use Rattle.rules.specs.declared.refusals.Refusal.{Refusal}
use Rattle.rules.specs.declared.refusals.Refusal.TheVariants.{CountsDiffer, UnknownKind}
use Rattle.rules.specs.declared.sheets.Sheet.{Sheet}
use Rattle.rules.specs.Bounds.{most_places}
use Rattle.rules.specs.Joinings.{Joining, joined_over}
use Rattle.rules.specs.Catalogues.{Meaning}
use Rattle.rules.specs.Sheets.{last_row, limit_of, joining_of}
use Rattle.rules.specs.Choices.{version, total, price}
use Rattle.rules.specs.Openings.{counts_same, kind_known}
use Rattle.rules.specs.Settings.{versions_in, amount_in}
use Rattle.exhaustive.specs.declared.found.Found.{Found}

-- A catalogue's meaning, with 0 for all that lies outside it.
abbrev pub guarded : Meaning → Meaning
guarded m = record { places = m.places; rows = m.rows; versions = versions_in m; amount = amount_in m }

-- Of two that were found the cheaper, and the first where they cost the same.
abbrev pub cheaper : Option Found → Option Found → Option Found
cheaper None b = b
cheaper (Some f) None = Some f
cheaper (Some f) (Some g) = if int_lt g.price f.price then Some g else Some f

-- The cheapest that is found with the versions from 1 up to one.
abbrev pub cheapest_to : (ℕ → Option Found) → ℕ → Option Found
cheapest_to found zero = None
cheapest_to found (suc v) = cheaper (cheapest_to found v) (found (suc v))

-- Each of so many numbers, from 0 on, passes a test.
abbrev pub all_first : (ℕ → Bool) → ℕ → Bool
all_first test zero = true
all_first test (suc k) = all_first test k && test k

module _ (m : Meaning) (s : Sheet) where
  -- A row's amounts joined over all places by some joining.
  abbrev pub joined : Joining → ℕ → List ℕ → ℤ
  joined J row c = joined_over J (λ q. m.amount row q (version c q)) s.places

  -- A row's limit is kept.
  abbrev pub row_kept : List ℕ → ℕ → Bool
  row_kept c row = not ((joining_of s row).worse (total m s row c) (limit_of s row))

  -- The limits of all rows are kept.
  abbrev pub all_kept : List ℕ → Bool
  all_kept c = all_first (row_kept c) (suc (last_row s))

  -- A choice with its price, if it keeps the limits.
  abbrev pub judged : List ℕ → Option Found
  judged c = if all_kept c then Some (record { versions = c; price = price m s c }) else None

  -- The cheapest choice that is found when so many places, the last ones, are still to be given a version.
  abbrev pub tried : ℕ → List ℕ → Option Found
  tried zero c = judged c
  tried (suc left) c = cheapest_to (λ v. tried left (slice_set c (s.places - suc left) v)) (m.versions (s.places - left))

-- The cheapest of all choices, each version of the table being 0 at first.
abbrev pub all_tried : Meaning → Sheet → Option Found
all_tried m s = tried (guarded m) s s.places (replicate most_places 0)

-- The kind of every row has the number of one.
abbrev pub kinds_known : Sheet → Bool
kinds_known s = all_first (kind_known s) (suc (last_row s))

-- What is answered: a refusal, or the cheapest of all choices.
abbrev pub answer : Meaning → Sheet → Result (Option Found) Refusal
answer m s =
    if counts_same m s
    then (if kinds_known s then Ok (all_tried m s) else Err UnknownKind)
    else Err CountsDiffer
