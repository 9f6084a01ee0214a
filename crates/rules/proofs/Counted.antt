-- What `all` answers over the places of an order, looked for one after the other. Assumes nothing.
use Rattle.std.proofs.Common.{ℕ, ◌≡◌, Bool, true, false, List, ◌==◌, sym}
use Rattle.std.specs.Bool.{MatchBool}
use Rattle.std.specs.List.{list_any}
use Rattle.rules.specs.Openings.{contains_all}
use Rattle.rules.proofs.Bools.{split}
use Rattle.rules.proofs.Ranges.{Each}
use Rattle.rules.proofs.TestLists.{all_contained, contained_all, any_contains, contains_any}

-- A place is in an order.
abbrev pub lists : List ℕ → ℕ → Bool
lists xs q = list_any (λ x. x == q) xs

pub all_counted : (n : ℕ) (xs : List ℕ) (r : Bool) → MatchBool r (Each 1 n (lists xs)) (Each 1 n (lists xs) → ⊥) → r ≡ contains_all n xs
all_counted n xs true h = sym (contained_all n xs (λ q from to. contains_any q xs (h q from to)))
all_counted n xs false h =
    split (contains_all n xs) (λ e. absurd (h (λ q from to. any_contains q xs (all_contained n xs e q from to)))) sym
