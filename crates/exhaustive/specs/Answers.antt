-- What is answered when every choice is tried. Assumes nothing.
use Rattle.std.specs.Prelude.{◌≡◌, ℕ, ◌<◌, ◌≤◌, ◌⊎◌, List, take, Some, None, Ok, Err, Option, Result}
use Rattle.rules.specs.declared.refusals.Refusal.{Refusal}
use Rattle.rules.specs.declared.refusals.Refusal.TheVariants.{CountsDiffer, UnknownKind}
use Rattle.rules.specs.declared.sheets.Sheet.{Sheet}
use Rattle.rules.specs.Catalogues.{Meaning}
use Rattle.rules.specs.Sheets.{limit_of}
use Rattle.rules.specs.Openings.{SameCounts, KnownKinds}
use Rattle.rules.specs.Choices.{version, Choice, Keeps, price, NoChoice, Cheapest}
use Rattle.exhaustive.specs.declared.found.Found.{Found}

-- One choice comes before another: at the first place where they differ it has the lower version.
pub record Before (c d : List ℕ) : Type 0 where
  pub place : ℕ
  pub numbered : 1 ≤ place
  pub lower : version c place < version d place
  pub first : (q : ℕ) → 1 ≤ q → q < place → version c q ≡ version d q

-- The choice that a table of versions names: its front, a version for each place.
abbrev pub named : Sheet → List ℕ → List ℕ
named s table = take s.places table

-- Of the choices that keep the sheet's limits the cheapest, and of several such the one that comes first.
pub record FirstCheapest (m : Meaning) (s : Sheet) (f : Found) : Type 0 where
  pub cheapest : Cheapest m s (limit_of s) (named s f.versions)
  pub costs : f.price ≡ price m s (named s f.versions)
  pub first : (d : List ℕ) → Choice m s d → Keeps m s (limit_of s) d → price m s d ≡ f.price → (d ≡ named s f.versions) ⊎ Before (named s f.versions) d

-- What is answered is right: a refusal where the sheet does not fit the catalogue or a kind is unknown, "none" where no choice keeps the limits, and else the first of the cheapest.
abbrev pub RightAnswer : Meaning → Sheet → Result (Option Found) Refusal → Type 0
RightAnswer m s (Ok None) = SameCounts m s × KnownKinds s × NoChoice m s (limit_of s)
RightAnswer m s (Ok (Some f)) = SameCounts m s × KnownKinds s × FirstCheapest m s f
RightAnswer m s (Err e) = ((e ≡ CountsDiffer) × (SameCounts m s → ⊥)) ⊎ ((e ≡ UnknownKind) × SameCounts m s × (KnownKinds s → ⊥))
