-- Amounts joined over a few places stay within 64 bits. Assumes nothing.
use Rattle.std.proofs.Common.{◌≡◌, ℕ, zero, suc, ◌+◌, ◌^◌, ◌*◌, ◌<◌, ◌≤◌, ltb, leb, List, ℤ, pos, nat_abs, sym, ap, ap₂, ◌∙◌, suc-mul, arith}
use Rattle.std.proofs.lemmas.Bool.{cond_both, and_parts, leb-true, ltb-true}
use Rattle.rules.specs.Bounds.{amount_reach}
use Rattle.rules.specs.Joinings.{Joining, Laws, joined_over}
use Rattle.rules.specs.Catalogues.{Meaning, SoundMeaning, has_place, has_amount}
use Rattle.rules.specs.Choices.{version}
use Rattle.rules.specs.Settings.{amount_in}
use Rattle.joining.specs.Held.{held_in_64}
use Rattle.joining.proofs.Held.{held_near}

pub amount_near : (m : Meaning) → SoundMeaning m → (row q v : ℕ) → nat_abs (amount_in m row q v) ≤ amount_reach
amount_near m w row q v =
    cond_both (has_amount m row q v) (m.amount row q v) (pos 0) (λ z. nat_abs z ≤ amount_reach)
    (λ e.
    let a = and_parts (ltb row m.rows) _ e in
    let b = and_parts (has_place m q) _ a.1 in
    let c = and_parts (leb 1 q) _ b.0 in
    let d = and_parts (leb 1 v) _ b.1 in
    w.near row q v (ltb-true _ _ a.0) (leb-true _ _ c.0) (leb-true _ _ c.1) (leb-true _ _ d.0) (leb-true _ _ d.1))
    (λ e. omega arith)

-- the amounts of a choice in a row, by place
abbrev pub amounts : Meaning → ℕ → List ℕ → ℕ → ℤ
amounts m row c q = amount_in m row q (version c q)

module _ (J : Joining) (laws : Laws J) (f : ℕ → ℤ) (near : (q : ℕ) → nat_abs (f q) ≤ amount_reach) where
  joined_near : (q : ℕ) → nat_abs (joined_over J f q) ≤ suc q * amount_reach
  joined_near zero = omega (arith, laws.unit_near)
  joined_near (suc q) =
      omega (arith, laws.near (joined_over J f q) (f (suc q)), joined_near q, near (suc q), suc-mul (suc q) amount_reach)

  -- one place more
  pub joined_more : (q : ℕ) (joined amount : ℤ) → q < 2 ^ 8 → joined ≡ joined_over J f q → amount ≡ f (q + 1) → held_in_64 (J.join joined amount) ≡ joined_over J f (q + 1)
  joined_more q joined amount h j a =
      let at : q + 1 ≡ suc q = omega arith in
      ap₂ (λ x y. held_in_64 (J.join x y)) j (a ∙ ap f at)
      ∙ held_near (joined_over J f (suc q)) (omega (arith, joined_near (suc q), suc-mul (suc q) amount_reach))
      ∙ ap (joined_over J f) (sym at)
