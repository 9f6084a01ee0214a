-- A search: its states, and the step that the rules name at each. Assumes nothing.
use Rattle.std.specs.Prelude.{◌≡◌, ℕ, zero, suc, ◌+◌, ◌<◌, ◌≤◌, Bool, true, false, if◌then◌else◌, ◌&&◌, List, [], ◌∷◌, ◌++◌, length, replicate, ℤ, pos, ◌-ℤ◌, Some, None, Option, ◌==◌, nat_le, nat_lt}
use Rattle.rules.specs.Bounds.{most_grounds, most_lines}
use Rattle.rules.specs.Sheets.{Limits}
use Rattle.rules.specs.Choices.{capped}
use Rattle.rules.specs.Grounds.{Setting, Part, Ground, open_places, part_price, first_standing, blocked, ledger, learn}

-- A search in progress: the part-choice it is at, the best choice so far (the incumbent), its own copy of the cap, the steps made and the learned grounds.
pub record State : Type 0 where
  pub part : Part
  pub best : Option Part
  pub cap : ℤ
  pub steps : ℕ
  pub learned : List Ground

-- How many lines the grounds have together.
abbrev pub line_count : List Ground → ℕ
line_count [] = 0
line_count (g ∷ gs) = length g + line_count gs

-- The ledger has space for one ground more.
abbrev pub room : List Ground → Ground → Bool
room learned g = nat_lt (length learned) most_grounds && nat_le (line_count learned + length g) most_lines

-- One step more, with another part-choice.
abbrev pub at_part : State → Part → State
at_part σ s = record { part = s; best = σ.best; cap = σ.cap; steps = suc σ.steps; learned = σ.learned }

-- One step more, with a ground learned.
abbrev pub with_ground : State → Part → Ground → State
with_ground σ t g = record { part = t; best = σ.best; cap = σ.cap; steps = suc σ.steps; learned = σ.learned ++ (g ∷ []) }

-- What comes next in a search: it has ended with a closing ground, is full, or makes a step.
pub data Outcome : Type 0 where
  ended : Ground → Outcome
  full : Outcome
  stepped : State → Outcome

module _ (S : Setting) (L : Limits) where
  -- Version 1 everywhere, no best choice, the job's cap and 0 steps.
  abbrev pub start : List Ground → State
  start learned = record { part = replicate S.places 1; best = None; cap = L 0; steps = 0; learned = learned }

  -- The limits in force in a search, with its own copy of the cap.
  abbrev pub in_force : State → Limits
  in_force σ = capped L σ.cap

  -- The first ground that stands, in a state, at a part-choice.
  abbrev pub first_ground : State → Part → Option Ground
  first_ground σ s = first_standing S (in_force σ) (ledger S σ.learned) s

  -- Some ground stands, in a state, at a part-choice.
  abbrev pub stopped : State → Part → Bool
  stopped σ s = blocked S (in_force σ) (ledger S σ.learned) s

  -- The ground that is learned, in a state, at the position set next after t.
  abbrev pub ground_at : State → Part → Ground
  ground_at σ t = learn S (in_force σ) (ledger S σ.learned) t

  -- One step more, with the part-choice for the best choice, and the cap its price less 1.
  abbrev pub with_best : State → State
  with_best σ =
      record { part = σ.part; best = Some σ.part; cap = part_price S σ.part -ℤ pos 1; steps = suc σ.steps; learned = σ.learned }

  -- w is the lowest version of the place set next after t, but for those passed over, with which no ground stands.
  pub record LowestFree (σ : State) (t : Part) (passed : ℕ → Type 0) (w : ℕ) : Type 0 where
    pub counted : 1 ≤ w
    pub there : w ≤ S.versions (open_places S t)
    pub other : passed w → ⊥
    pub free : stopped σ (w ∷ t) ≡ false
    pub lowest : (x : ℕ) → 1 ≤ x → x < w → (passed x → ⊥) → stopped σ (x ∷ t) ≡ true

  -- With each version of the place set next after t, but for those passed over, a ground stands.
  abbrev pub NoneFree : State → Part → (ℕ → Type 0) → Type 0
  NoneFree σ t passed = (x : ℕ) → 1 ≤ x → x ≤ S.versions (open_places S t) → (passed x → ⊥) → stopped σ (x ∷ t) ≡ true

  -- A ground is to be learned at the position set next after t.
  pub data Learns (σ : State) : Part → Type 0 where
    -- a ground stands, and with each other version of the lowest place that is set one stands too: there, and the place opens
    no_other : (v : ℕ) (t : Part) → σ.part ≡ v ∷ t → stopped σ (v ∷ t) ≡ true → NoneFree σ t (λ x. x ≡ v) → Learns σ t
    -- no ground stands, a place is open, and with each version of the last open place one stands: there, and the place stays open
    no_version : 0 < open_places S σ.part → stopped σ σ.part ≡ false → NoneFree σ σ.part (λ x. ⊥) → Learns σ σ.part

  -- A step from one state to another.
  pub data Step (σ τ : State) : Type 0 where
    -- a ground stands: the lowest place that is set takes its lowest other version with which none stands
    move : (v w : ℕ) (t : Part) → σ.part ≡ v ∷ t → stopped σ (v ∷ t) ≡ true → LowestFree σ t (λ x. x ≡ v) w → τ ≡ at_part σ (w ∷ t) → Step σ τ
    -- no ground stands, and no place is open: the choice becomes the best
    found : open_places S σ.part ≡ 0 → stopped σ σ.part ≡ false → τ ≡ with_best σ → Step σ τ
    -- no ground stands, and a place is open: it takes its lowest version with which none stands
    set : (w : ℕ) → 0 < open_places S σ.part → stopped σ σ.part ≡ false → LowestFree σ σ.part (λ x. ⊥) w → τ ≡ at_part σ (w ∷ σ.part) → Step σ τ
    -- there is no such version, and the ledger has space: a ground is learned
    learns : (t : Part) → Learns σ t → room σ.learned (ground_at σ t) ≡ true → τ ≡ with_ground σ t (ground_at σ t) → Step σ τ

  -- The search is full: the next step would learn a ground for which the ledger lacks space.
  abbrev pub Full : State → Type 0
  Full σ = (t : Part) × Learns σ t × (room σ.learned (ground_at σ t) ≡ false)

  -- So many steps lead from one state to another.
  pub data Runs : ℕ → State → State → Type 0 where
    none : {σ : State} → Runs 0 σ σ
    more : {k : ℕ} {σ τ υ : State} → Step σ τ → Runs k τ υ → Runs (suc k) σ υ

  -- The search has ended: all places are open, and g is the first ground that stands.
  abbrev pub Ended : State → Ground → Type 0
  Ended σ g = (σ.part ≡ []) × (first_ground σ [] ≡ Some g)

  -- What the rules name at a state: the end with its closing ground, that the search is full, or the step to the next state.
  abbrev pub Named : State → Outcome → Type 0
  Named σ (ended g) = Ended σ g
  Named σ full = Full σ
  Named σ (stepped τ) = Step σ τ

  -- The lowest of the versions from 1 to k that can be put on t with no ground standing.
  abbrev pub lowest_free : State → Part → ℕ → Option ℕ
  lowest_free σ t zero = None
  lowest_free σ t (suc k) =
      elim (lowest_free σ t k) [ Some w ↦ Some w | None ↦ if stopped σ (suc k ∷ t) then None else Some (suc k) ]

  -- A place takes the free version found; or a ground is learned, where there is space.
  abbrev pub try_place : State → Part → Option ℕ → Outcome
  try_place σ t (Some w) = stepped (at_part σ (w ∷ t))
  try_place σ t None = if room σ.learned (ground_at σ t) then stepped (with_ground σ t (ground_at σ t)) else full

  -- The next step at the place set next after t.
  abbrev pub go_on : State → Part → Outcome
  go_on σ t = try_place σ t (lowest_free σ t (S.versions (open_places S t)))

  -- A ground stands.
  abbrev pub after_ground : State → Ground → Part → Outcome
  after_ground σ g [] = ended g
  after_ground σ g (v ∷ t) = go_on σ t

  -- With a ground that stands, or with none.
  abbrev pub by_ground : State → Option Ground → Outcome
  by_ground σ (Some g) = after_ground σ g σ.part
  by_ground σ None = if open_places S σ.part == 0 then stepped (with_best σ) else go_on σ σ.part

  -- What the rules name at a state, worked out.
  unfoldable pub next : State → Outcome
  next σ = by_ground σ (first_ground σ σ.part)
