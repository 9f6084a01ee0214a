-- Choices of a version for each place: which keep the limits, which is cheapest, and what a closing ground says of them.
-- Nothing here knows of positions, searches or ledgers. Assumes nothing.
use Rattle.std.specs.Prelude.{◌≡◌, ℕ, ◌+◌, ◌-◌, ◌*◌, ◌<◌, ◌≤◌, true, false, if◌then◌else◌, List, [], ◌∷◌, length, ℤ, pos, ◌-ℤ◌, ◌≤ℤ◌, Some, None, Option, ◌==◌, slice_index, unsigned_abs}
use Rattle.std.specs.List.{AllByRecursion}
use Rattle.rules.specs.declared.lines.ClosingLine.{ClosingLine}
use Rattle.rules.specs.declared.sheets.Sheet.{Sheet}
use Rattle.rules.specs.Bounds.{amount_reach, greatest_amount}
use Rattle.rules.specs.Joinings.{joined_over}
use Rattle.rules.specs.Catalogues.{Meaning}
use Rattle.rules.specs.Sheets.{Limits, last_row, joining_of}

-- The limits with another one on a row.
abbrev pub changed : Limits → ℕ → ℤ → Limits
changed L row limit r = if r == row then limit else L r

-- The limits with another cap on the price.
abbrev pub capped : Limits → ℤ → Limits
capped L cap = changed L 0 cap

-- The version that a list of versions by place gives a place.
abbrev pub version : List ℕ → ℕ → ℕ
version c q = slice_index c (q - 1)

module _ (m : Meaning) (s : Sheet) where
  -- A choice names a version for every place.
  abbrev pub Choice : List ℕ → Type 0
  Choice c = (length c ≡ s.places) × ((q : ℕ) → 1 ≤ q → q ≤ s.places → (1 ≤ version c q) × (version c q ≤ m.versions q))

  -- A row's total: its amounts joined over all places.
  abbrev pub total : ℕ → List ℕ → ℤ
  total row c = joined_over (joining_of s row) (λ q. m.amount row q (version c q)) s.places

  -- A choice costs its total of row 0.
  abbrev pub price : List ℕ → ℤ
  price c = total 0 c

  -- A choice keeps the limits when no row's total is worse than its limit.
  abbrev pub Keeps : Limits → List ℕ → Type 0
  Keeps L c = (row : ℕ) → row ≤ last_row s → (joining_of s row).worse (total row c) (L row) ≡ false

  -- No choice keeps the limits.
  abbrev pub NoChoice : Limits → Type 0
  NoChoice L = (c : List ℕ) → Choice c → Keeps L c → ⊥

  -- This choice keeps the limits, and every other that does costs at least as much.
  abbrev pub Cheapest : Limits → List ℕ → Type 0
  Cheapest L c = Choice c × Keeps L c × ((d : List ℕ) → Choice d → Keeps L d → price c ≤ℤ price d)

  -- A closing ground stands at limits when each of its constants is worse than its row's limit.
  abbrev pub StandsAt : Limits → List ClosingLine → Type 0
  StandsAt L g = AllByRecursion (λ l. (joining_of s l.row).worse l.constant (L l.row) ≡ true) g

  -- It closes the limits: it stands at them, and at all limits where it stands no choice keeps them.
  abbrev pub Closes : Limits → List ClosingLine → Type 0
  Closes L g = StandsAt L g × ((M : Limits) → StandsAt M g → NoChoice M)

-- Each row comes once, by rising number.
abbrev pub Rising : List ClosingLine → Type 0
Rising [] = Unit {0}
Rising (l ∷ g) = AllByRecursion (λ k. l.row < k.row) g × Rising g

-- The lines of a closing ground: one or more, each row once, of rows that there are, with constants near 0.
pub record InShape (s : Sheet) (g : List ClosingLine) : Type 0 where
  pub some_line : 1 ≤ length g
  pub rising : Rising g
  pub rows : AllByRecursion (λ l. l.row ≤ last_row s) g
  pub near : AllByRecursion (λ l. unsigned_abs l.constant ≤ amount_reach + s.places * greatest_amount) g

-- What is said of a search: the least choice, or "none", each with the closing ground; or, of one that has not ended, "full" or "unfinished" with the best choice so far.
pub data Told : Type 0 where
  says_least : List ℕ → List ClosingLine → Told
  says_none : List ClosingLine → Told
  says_full says_unfinished : Option (List ℕ) → Told

module _ (m : Meaning) (s : Sheet) where
  -- The best choice so far, if there is one, is a choice that keeps the limits.
  abbrev pub BestKeeps : Limits → Option (List ℕ) → Type 0
  BestKeeps L None = Unit {0}
  BestKeeps L (Some c) = Choice m s c × Keeps m s L c

  -- What is said is true at these limits: the choice named is the cheapest, or there is none, and in both cases the closing ground closes the limits, with the cap one under a price named; or the best choice of a search that has not ended keeps them.
  abbrev pub TrueAt : Limits → Told → Type 0
  TrueAt L (says_least c g) = Cheapest m s L c × Closes m s (capped L (price m s c -ℤ pos 1)) g
  TrueAt L (says_none g) = NoChoice m s L × Closes m s L g
  TrueAt L (says_full best) = BestKeeps L best
  TrueAt L (says_unfinished best) = BestKeeps L best

-- The closing ground that is told, if any, has the lines of one.
abbrev pub WellTold : Sheet → Told → Type 0
WellTold s (says_least c g) = InShape s g
WellTold s (says_none g) = InShape s g
WellTold s (says_full best) = Unit {0}
WellTold s (says_unfinished best) = Unit {0}

-- In how many ways each place of a list can be given a version.
abbrev pub ways : Meaning → List ℕ → ℕ
ways m [] = 1
ways m (q ∷ order) = m.versions q * ways m order

-- How many part-choices there are in an order: each leaves the places open up to a position, and gives each place above it a version.
abbrev pub part_choices : Meaning → List ℕ → ℕ
part_choices m [] = 1
part_choices m (q ∷ order) = ways m (q ∷ order) + part_choices m order
