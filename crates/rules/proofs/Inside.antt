-- Inside a catalogue's meaning a search sees what it means, and a total depends on the places alone. Assumes nothing.
use Rattle.std.proofs.Common.{◌≡◌, ℕ, zero, suc, ◌<◌, ◌≤◌, true, ℤ, refl, ap₂, arith}
use Rattle.std.proofs.lemmas.Bool.{cond-true, and_from, le-leb, lt-ltb}
use Rattle.rules.specs.Joinings.{Joining, joined_over}
use Rattle.rules.specs.Catalogues.{Meaning, has_place, has_amount}
use Rattle.rules.specs.Settings.{versions_in, amount_in}

module _ (m : Meaning) where
  place_inside : (q : ℕ) → 1 ≤ q → q ≤ m.places → has_place m q ≡ true
  place_inside q a b = and_from _ _ (le-leb 1 q a) (le-leb q m.places b)

  pub versions_inside : (q : ℕ) → 1 ≤ q → q ≤ m.places → versions_in m q ≡ m.versions q
  versions_inside q a b = cond-true (has_place m q) _ _ (place_inside q a b)

  pub amount_inside : (row q v : ℕ) → row < m.rows → 1 ≤ q → q ≤ m.places → 1 ≤ v → v ≤ m.versions q → amount_in m row q v ≡ m.amount row q v
  amount_inside row q v r a b x y =
      cond-true (has_amount m row q v) _ _
      (and_from _ _ (lt-ltb row m.rows r) (and_from _ _ (place_inside q a b) (and_from _ _ (le-leb 1 v x) (le-leb v (m.versions q) y))))

-- equal amounts come to equal totals
pub joined_same : (J : Joining) (f g : ℕ → ℤ) (n : ℕ) → ((q : ℕ) → 1 ≤ q → q ≤ n → f q ≡ g q) → joined_over J f n ≡ joined_over J g n
joined_same J f g zero h = refl
joined_same J f g (suc n) h = ap₂ J.join (joined_same J f g n (λ q a b. h q a (omega arith))) (h (suc n) (omega arith) (omega arith))
