-- A ground in order has at most a line for each row and level that there can be. Assumes nothing.
use Rattle.std.proofs.Common.{◌≡◌, ℕ, suc, ◌+◌, ◌*◌, ◌≤◌, true, [], ◌∷◌, length, refl, arith}
use Rattle.std.specs.List.{AllByRecursion, list_all}
use Rattle.std.proofs.lemmas.Bool.{and_parts, and_from}
use Rattle.std.proofs.lemmas.Bool.Decides.{nat_tests}
use Rattle.std.proofs.lemmas.List.Elements.{All-from_recursion, recursion_from_All}
use Rattle.std.proofs.lemmas.List.Sums.{AllPass-from_list_all, list_all-from_AllPass}
use Rattle.rules.specs.declared.lines.Line.{Line}
use Rattle.rules.specs.Bounds.{most_places}
use Rattle.rules.specs.Grounds.{Ground, Ordered, before}
use Rattle.ledger.specs.Lines.{Near}
use Rattle.ledger.specs.Places.{most_drafted, rising}

-- the order as a test, and as a fact
pub ordered_since : (g : Ground) → rising g ≡ true → Ordered g
ordered_since [] h = tt
ordered_since (a ∷ g) h =
    let parts = and_parts (list_all (before a) g) _ h in
    (recursion_from_All (λ b. before a b ≡ true) g (AllPass-from_list_all (before a) g parts.0), ordered_since g parts.1)

pub since_ordered : (g : Ground) → Ordered g → rising g ≡ true
since_ordered [] h = refl
since_ordered (a ∷ g) h = and_from (list_all (before a) g) _ (list_all-from_AllPass (before a) g (All-from_recursion (λ b. before a b ≡ true) g h.0)) (since_ordered g h.1)

-- the number of a row and level
abbrev key : Line → ℕ
key l = l.row * suc most_places + l.level

key_rises : (a b : Line) → Near a → before a b ≡ true → suc (key a) ≤ key b
key_rises a b h first = grind (arith, nat_tests)

keys_rise : (a : Line) (g : Ground) → Near a → AllByRecursion (λ b. before a b ≡ true) g → AllByRecursion (λ b. suc (key a) ≤ key b) g
keys_rise a [] h all = tt
keys_rise a (b ∷ g) h all = (key_rises a b h all.0, keys_rise a g h all.1)

few_from : (g : Ground) (k : ℕ) → Ordered g → AllByRecursion Near g → AllByRecursion (λ b. k ≤ key b) g → k ≤ most_drafted → length g + k ≤ most_drafted
few_from [] k ordered range low most = omega arith
few_from (a ∷ g) k ordered range low most =
    let row = range.0.0 in
    let level = range.0.1 in
    let rest = few_from g (suc (key a)) ordered.1 range.1 (keys_rise a g range.0 ordered.0) (omega arith) in omega (arith, low.0)

any_key : (g : Ground) → AllByRecursion (λ b. 0 ≤ key b) g
any_key [] = tt
any_key (b ∷ g) = (omega arith, any_key g)

pub few_lines : (g : Ground) → Ordered g → AllByRecursion Near g → length g ≤ most_drafted
few_lines g ordered range = let few = few_from g 0 ordered range (any_key g) (omega arith) in omega arith
