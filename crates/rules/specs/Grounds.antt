-- Part-choices, lines and grounds: when they stand, and how a ground is learned. Assumes nothing.
use Rattle.std.specs.Prelude.{◌≡◌, ℕ, zero, suc, ◌-◌, ◌<◌, ◌≤◌, Bool, true, if◌then◌else◌, ◌&&◌, ◌||◌, List, [], ◌∷◌, ◌++◌, map, length, ℤ, is_some, Some, None, Option, ◌==◌, nat_le, nat_lt}
use Rattle.std.specs.List.{AllByRecursion}
use Rattle.rules.specs.declared.lines.Line.{Line}
use Rattle.rules.specs.Joinings.{Joining, Laws, onto, sum_at_most}
use Rattle.rules.specs.Sheets.{Limits}

-- What is searched: a catalogue seen through an order, in which places go by their position and position 1 gives way first.
pub record Setting : Type 0 where
  pub places : ℕ
  -- rows are numbered from 0, the price, to this
  pub last_row : ℕ
  pub joining : ℕ → Joining
  -- how many versions the place at a position has
  pub versions : ℕ → ℕ
  -- the amount of a row at a position with a version
  pub amount : ℕ → ℕ → ℕ → ℤ

-- Every row's joining keeps the laws, the price is added up, and there are places, each with a version.
pub record SoundSetting (S : Setting) : Type 0 where
  pub some_place : 1 ≤ S.places
  pub some_version : (p : ℕ) → 1 ≤ p → p ≤ S.places → 1 ≤ S.versions p
  pub laws : (r : ℕ) → r ≤ S.last_row → Laws (S.joining r)
  pub price_adds : S.joining 0 ≡ sum_at_most

-- A part-choice (a partial assignment): the versions at the positions above the open ones, from the lowest such position up; [] where all are open.
abbrev pub Part : Type 0
Part = List ℕ

-- A ground (a learned nogood with its reason): lines that stand together.
abbrev pub Ground : Type 0
Ground = List Line

-- The order of lines in a ground: by row, and then by level.
abbrev pub before : Line → Line → Bool
before a b = nat_lt a.row b.row || (a.row == b.row && nat_lt a.level b.level)

-- Two lines have equal row and level.
abbrev pub same_place : Line → Line → Bool
same_place a b = a.row == b.row && a.level == b.level

-- Each line comes before all later ones.
abbrev pub Ordered : Ground → Type 0
Ordered [] = Unit {0}
Ordered (a ∷ g) = AllByRecursion (λ b. before a b ≡ true) g × Ordered g

-- The lines of the ground that was found, if one was.
abbrev pub ground_in : Option Ground → Ground
ground_in None = []
ground_in (Some g) = g

module _ (S : Setting) where
  -- How many places are open; the last of them is the place that is set next.
  abbrev pub open_places : Part → ℕ
  open_places s = S.places - length s

  -- A part-choice gives no more versions than there are places, and each place a version that it has.
  abbrev pub Proper : Part → Type 0
  Proper [] = Unit {0}
  Proper (v ∷ t) = (length t < S.places) × (1 ≤ v) × (v ≤ S.versions (open_places t)) × Proper t

  -- The amount at a position with a version joined onto a constant of its row.
  abbrev pub with_amount : ℕ → ℕ → ℕ → ℤ → ℤ
  with_amount row p v k = onto (S.joining row) k (S.amount row p v)

  -- The constant, joined with the row's amounts at the positions above the level.
  abbrev pub joined_above : ℕ → ℕ → ℤ → Part → ℤ
  joined_above row level k [] = k
  joined_above row level k (v ∷ t) =
      if nat_lt level (open_places t) then with_amount row (open_places t) v (joined_above row level k t) else joined_above row level k t

  -- The row's amounts joined over the places that are set: with none open, a choice's total.
  abbrev pub part_total : ℕ → Part → ℤ
  part_total row c = joined_above row 0 (S.joining row).unit c

  -- What a choice costs.
  abbrev pub part_price : Part → ℤ
  part_price c = part_total 0 c

  -- A line stands when its level is at least the number of open places, and its constant, joined with the amounts above its level, is worse than the row's limit.
  abbrev pub line_stands : Limits → Part → Line → Bool
  line_stands L s l =
      nat_le (open_places s) l.level && (S.joining l.row).worse (joined_above l.row l.level l.constant s) (L l.row)

  -- A ground stands when each of its lines does.
  abbrev pub stands : Limits → Part → Ground → Bool
  stands L s [] = true
  stands L s (l ∷ g) = line_stands L s l && stands L s g

  -- The first ground of a list that stands.
  abbrev pub first_standing : Limits → List Ground → Part → Option Ground
  first_standing L [] s = None
  first_standing L (g ∷ gs) s = if stands L s g then Some g else first_standing L gs s

  -- Some ground of a list stands.
  abbrev pub blocked : Limits → List Ground → Part → Bool
  blocked L gs s = is_some (first_standing L gs s)

  -- The starting ground of a row: the single line (row, 0, unit).
  abbrev pub of_row : ℕ → Ground
  of_row r = record { row = r; level = 0; constant = (S.joining r).unit } ∷ []

  -- The starting grounds of the rows from 0 up to one.
  abbrev pub starting : ℕ → List Ground
  starting zero = of_row 0 ∷ []
  starting (suc r) = starting r ++ (of_row (suc r) ∷ [])

  -- The ledger: the starting grounds, then the learned ones, oldest first.
  abbrev pub ledger : List Ground → List Ground
  ledger learned = starting S.last_row ++ learned

  -- A line of a ground that stands once version v is put on t, as it is learned at the position of v: one that lies right below the position goes up to it, with the amount of v joined on.
  abbrev pub moved : Part → ℕ → Line → Line
  moved t v l =
      if suc l.level == open_places t
      then record { row = l.row; level = open_places t; constant = with_amount l.row (open_places t) v l.constant }
      else l

  -- Of two lines with equal row and level, the one whose constant isn't worse.
  abbrev pub kept : Line → Line → Line
  kept a b = if (S.joining a.row).worse a.constant b.constant then b else a

  -- One line more in a ground.
  abbrev pub with_line : Line → Ground → Ground
  with_line a [] = a ∷ []
  with_line a (b ∷ g) =
      if before a b then a ∷ b ∷ g
      else if same_place a b then kept a b ∷ g
      else b ∷ with_line a g

  -- Several lines more.
  abbrev pub with_lines : List Line → Ground → Ground
  with_lines [] g = g
  with_lines (a ∷ ls) g = with_lines ls (with_line a g)

  -- What the versions from 1 to v of the place set next after t give towards a ground, with a ground for each of them.
  abbrev pub learned_up_to : Part → (ℕ → Ground) → ℕ → Ground
  learned_up_to t pick zero = []
  learned_up_to t pick (suc v) = with_lines (map (moved t (suc v)) (pick (suc v))) (learned_up_to t pick v)

  -- The ground that is learned at the position set next after t, from a ground for each version of the place there.
  unfoldable pub learn_from : Part → (ℕ → Ground) → Ground
  learn_from t pick = learned_up_to t pick (S.versions (open_places t))

  -- The ground that is learned there: with each version set, from the first ground that stands.
  abbrev pub learn : Limits → List Ground → Part → Ground
  learn L gs t = learn_from t (λ v. ground_in (first_standing L gs (v ∷ t)))

  -- A ground that can be learned: a starting ground, or one that is learned at some position from such grounds, one for each version there.
  pub data Learnable : Ground → Type 0 where
    from_row : (r : ℕ) → r ≤ S.last_row → Learnable (of_row r)
    by_learning : (t : Part) (pick : ℕ → Ground) → length t < S.places → ((v : ℕ) → 1 ≤ v → v ≤ S.versions (open_places t) → Learnable (pick v)) → Learnable (learn_from t pick)

  -- One or more lines, by row and then level, with no row and level twice, of rows and levels that there are.
  pub record WellFormed (g : Ground) : Type 0 where
    pub some_line : 1 ≤ length g
    pub ordered : Ordered g
    pub in_range : AllByRecursion (λ l. (l.row ≤ S.last_row) × (l.level ≤ S.places)) g
