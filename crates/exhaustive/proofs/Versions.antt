-- The versions of a place tried one after the other. Assumes nothing.
use Rattle.std.proofs.Common.{◌≡◌, ℕ, zero, suc, ◌+◌, ◌-◌, ◌≤◌, List, set, Option, ap, ap₂, ◌∙◌, arith}
use Rattle.rules.specs.declared.sheets.Sheet.{Sheet}
use Rattle.rules.specs.Catalogues.{Meaning}
use Rattle.exhaustive.specs.declared.found.Found.{Found}
use Rattle.exhaustive.specs.Trials.{cheaper, cheapest_to, tried}

-- the cheapest with the versions from 1 up to one at the place that comes next
abbrev pub next_to : Meaning → Sheet → ℕ → List ℕ → ℕ → Option Found
next_to m s left c = cheapest_to (λ v. tried m s (left - 1) (set c (s.places - left) v))

-- one version more
pub next_more : (m : Meaning) (s : Sheet) (left : ℕ) (c : List ℕ) (v : ℕ) → 1 ≤ v → (best : Option Found) → best ≡ next_to m s left c (v - 1) → cheaper best (tried m s (left - 1) (set c (s.places - left + 1 - 1) v)) ≡ next_to m s left c v
next_more m s left c zero l best h = absurd (omega arith)
next_more m s left c (suc v) l best h =
    let at : suc v - 1 ≡ v = omega arith in
    let slot : s.places - left + 1 - 1 ≡ s.places - left = omega arith in
    ap₂ (λ b i. cheaper b (tried m s (left - 1) (set c i (suc v)))) (h ∙ ap (next_to m s left c) at) slot

-- with a place left to try
pub tried_more : (m : Meaning) (s : Sheet) (left : ℕ) (c : List ℕ) → 1 ≤ left → left ≤ s.places → tried m s left c ≡ next_to m s left c (m.versions (s.places - left + 1))
tried_more m s zero c a b = absurd (omega arith)
tried_more m s (suc left) c a b =
    let same : left ≡ suc left - 1 = omega arith in
    let place : s.places - left ≡ s.places - suc left + 1 = omega arith in
    ap₂ (λ x q. cheapest_to (λ v. tried m s x (set c (s.places - suc left) v)) (m.versions q)) same place
