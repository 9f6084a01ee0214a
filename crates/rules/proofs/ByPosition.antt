-- What the promises say by place, said by position: choices, the cheapest of them, and what closes a list of limits. Assumes nothing.
use Rattle.std.proofs.Common.{◌≡◌, ℕ, ◌+◌, ◌*◌, ◌≤◌, true, false, length, pos, ◌-ℤ◌, nat_abs, ◌≤ℤ◌, Some, None, Option}
use Rattle.std.specs.List.{AllByRecursion}
use Rattle.rules.specs.declared.lines.Line.{Line}
use Rattle.rules.specs.Bounds.{amount_reach}
use Rattle.rules.specs.Sheets.{Limits}
use Rattle.rules.specs.Choices.{capped}
use Rattle.rules.specs.Grounds.{Setting, Part, Ground, Proper, part_total, part_price}

module _ (S : Setting) where
  -- no place is open
  abbrev pub Complete : Part → Type 0
  Complete c = (length c ≡ S.places) × Proper S c

  -- no row's limit is broken
  abbrev pub PartKeeps : Limits → Part → Type 0
  PartKeeps L c = (row : ℕ) → row ≤ S.last_row → (S.joining row).worse (part_total S row c) (L row) ≡ false

  -- no choice keeps the limits, or the one named does and every choice that does costs at least as much
  abbrev pub PartLeast : Limits → Option Part → Type 0
  PartLeast L None = (c : Part) → Complete c → PartKeeps L c → ⊥
  PartLeast L (Some c) = Complete c × PartKeeps L c × ((d : Part) → Complete d → PartKeeps L d → part_price S c ≤ℤ part_price S d)

  -- each constant of a ground is worse than its row's limit
  abbrev pub LinesStandAt : Limits → Ground → Type 0
  LinesStandAt M g = AllByRecursion (λ l. (S.joining l.row).worse l.constant (M l.row) ≡ true) g

  -- the limits with the cap one under the price of the choice named, if any
  abbrev pub one_under : Limits → Option Part → Limits
  one_under L None = L
  one_under L (Some c) = capped L (part_price S c -ℤ pos 1)

  -- a ground stands at the limits with the cap one under any price named, and at all limits where it stands no choice keeps them
  abbrev pub PartCloses : Limits → Option Part → Ground → Type 0
  PartCloses L best g = LinesStandAt (one_under L best) g × ((M : Limits) → LinesStandAt M g → (c : Part) → Complete c → PartKeeps M c → ⊥)

  -- every amount lies no further from 0 than B
  abbrev pub AmountsNear : ℕ → Type 0
  AmountsNear B = (row p v : ℕ) → row ≤ S.last_row → 1 ≤ p → p ≤ S.places → 1 ≤ v → v ≤ S.versions p → nat_abs (S.amount row p v) ≤ B

-- the constant of a line, into which as many amounts are joined as its level says
abbrev pub Near : ℕ → Line → Type 0
Near B l = nat_abs l.constant ≤ amount_reach + l.level * B
