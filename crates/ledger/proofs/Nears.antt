-- Lines that the tables hold: as a fact and as a test, and in lists that are made of others. Assumes nothing.
use Rattle.std.proofs.Common.{◌≡◌, ℕ, zero, suc, true, leb, List, [], ◌∷◌, ◌++◌, take, drop, set, replicate, refl, arith}
use Rattle.std.specs.List.{AllByRecursion}
use Rattle.std.proofs.lemmas.Bool.{and_parts, and_from, leb-true, le-leb}
use Rattle.rules.specs.declared.lines.Line.{Line}
use Rattle.rules.specs.Bounds.{greatest_row, most_places}
use Rattle.ledger.specs.Lines.{no_line, Near, near, AllNear, all_near}

pub near_none : Near no_line
near_none = (omega arith, omega arith, omega arith)

pub near_since : (l : Line) → near l ≡ true → Near l
near_since l h =
    let parts = and_parts (leb l.row greatest_row) _ h in
    let rest = and_parts (leb l.level most_places) _ parts.1 in
    (leb-true _ _ parts.0, leb-true _ _ rest.0, leb-true _ _ rest.1)

pub all_near_since : (ls : List Line) → all_near ls ≡ true → AllNear ls
all_near_since [] h k = near_none
all_near_since (l ∷ ls) h zero = near_since l (and_parts (near l) (all_near ls) h).0
all_near_since (l ∷ ls) h (suc k) = all_near_since ls (and_parts (near l) (all_near ls) h).1 k

since_near : (l : Line) → Near l → near l ≡ true
since_near l h = and_from (leb l.row greatest_row) _ (le-leb _ _ h.0) (and_from (leb l.level most_places) _ (le-leb _ _ h.1) (le-leb _ _ h.2))

pub since_all_near : (ls : List Line) → AllNear ls → all_near ls ≡ true
since_all_near [] h = refl
since_all_near (l ∷ ls) h = and_from (near l) (all_near ls) (since_near l (h 0)) (since_all_near ls (λ k. h (suc k)))

-- one line more
pub near_push : (ls : List Line) (l : Line) → AllNear ls → Near l → AllNear (ls ++ l ∷ [])
near_push [] l all new zero = new
near_push [] l all new (suc k) = near_none
near_push (x ∷ ls) l all new zero = all 0
near_push (x ∷ ls) l all new (suc k) = near_push ls l (λ j. all (suc j)) new k

-- a line written over
pub near_set : (ls : List Line) (i : ℕ) (l : Line) → Near l → AllNear ls → AllNear (set ls i l)
near_set [] i l new all k = all k
near_set (x ∷ ls) zero l new all zero = new
near_set (x ∷ ls) zero l new all (suc k) = all (suc k)
near_set (x ∷ ls) (suc i) l new all zero = all 0
near_set (x ∷ ls) (suc i) l new all (suc k) = near_set ls i l new (λ j. all (suc j)) k

-- a table with no line
pub near_blank : (n : ℕ) → AllNear (replicate n no_line)
near_blank zero k = near_none
near_blank (suc n) zero = near_none
near_blank (suc n) (suc k) = near_blank n k

near_drop : (n : ℕ) (ls : List Line) → AllNear ls → AllNear (drop n ls)
near_drop zero ls all = all
near_drop (suc n) [] all = all
near_drop (suc n) (l ∷ ls) all = near_drop n ls (λ k. all (suc k))

near_take : (n : ℕ) (ls : List Line) → AllNear ls → AllNear (take n ls)
near_take zero ls all k = near_none
near_take (suc n) [] all k = near_none
near_take (suc n) (l ∷ ls) all zero = all 0
near_take (suc n) (l ∷ ls) all (suc k) = near_take n ls (λ j. all (suc j)) k

pub near_part : (n m : ℕ) (ls : List Line) → AllNear ls → AllNear (take m (drop n ls))
near_part n m ls all = near_take m (drop n ls) (near_drop n ls all)

-- the same of each line of a list, by recursion
pub near_listed : (ls : List Line) → AllNear ls → AllByRecursion Near ls
near_listed [] all = tt
near_listed (l ∷ ls) all = (all 0, near_listed ls (λ k. all (suc k)))

pub listed_near : (ls : List Line) → AllByRecursion Near ls → AllNear ls
listed_near [] all k = near_none
listed_near (l ∷ ls) all zero = all.0
listed_near (l ∷ ls) all (suc k) = listed_near ls all.1 k
