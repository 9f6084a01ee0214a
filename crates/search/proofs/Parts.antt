-- The versions of a part-choice in their table. Assumes nothing.
use Rattle.std.proofs.Common.{◌≡◌, ℕ, ◌+◌, ◌-◌, ◌<◌, ◌≤◌, List, [], ◌∷◌, length, get_or, take, drop, set, replicate, sym, ap, ap₂, ◌∙◌, arith}
use Rattle.std.proofs.Math.Seq.{take-set-lt}
use Rattle.std.proofs.lemmas.List.{drop_all, drop_more, drop-set, length-take-le, set-get_or, get_or-replicate, take-replicate}
use Rattle.rules.specs.Bounds.{most_places}
use Rattle.search.specs.Parts.{versions_of}
use Rattle.search.specs.declared.part.Part.{Part}
use Rattle.search.specs.declared.search.Search.{Search}
use Rattle.search.specs.States.{chosen_from, part_in, above}
use Rattle.search.proofs.Aboves.{opened_is}
use Rattle.rules.specs.Grounds.{open_places}

-- a version put on those above an index
pub put_on : (vs : List ℕ) (n i v : ℕ) → i < n → n ≤ length vs → drop i (take n (set vs i v)) ≡ v ∷ drop (i + 1) (take n vs)
put_on vs n i v low long = ap (drop i) (take-set-lt n vs i v low) ∙ drop-set (take n vs) i v (omega (arith, length-take-le n vs long))

-- the table of a part-choice has a version for each place of a search
pub whole_of : (s : Search) (p : Part) → length (versions_of s.grid.places p) ≡ s.grid.places
whole_of s p = length-take-le s.grid.places p.versions (omega (arith, p.long, s.grid.few_places))

-- how many places are open below an index, and in the part-choice of a search
pub open_above : (s : Search) (index : ℕ) → index < s.grid.places → open_places (chosen_from s) (above s index) ≡ index + 1
open_above s index low = opened_is (chosen_from s) (versions_of s.grid.places s.part) (whole_of s s.part) (index + 1) (omega (arith, whole_of s s.part))

pub open_part : (s : Search) → open_places (chosen_from s) (part_in s s.part) ≡ s.part.opened
open_part s = opened_is (chosen_from s) (versions_of s.grid.places s.part) (whole_of s s.part) s.part.opened (omega (arith, whole_of s s.part, s.within))

-- the part-choice of a search, with all places open, with some set, and with some open
pub part_none : (s : Search) → s.part.opened ≡ s.grid.places → part_in s s.part ≡ []
part_none s all = drop_all s.part.opened (versions_of s.grid.places s.part) (omega (arith, whole_of s s.part))

pub part_head : (s : Search) → s.part.opened < s.grid.places → part_in s s.part ≡ get_or (versions_of s.grid.places s.part) s.part.opened 0 ∷ above s s.part.opened
part_head s low = drop_more (versions_of s.grid.places s.part) s.part.opened 0 (omega (arith, whole_of s s.part))

pub part_above : (s : Search) → 0 < s.part.opened → above s (s.part.opened - 1) ≡ part_in s s.part
part_above s some = let back : s.part.opened - 1 + 1 ≡ s.part.opened = omega arith in ap (λ n. drop n (versions_of s.grid.places s.part)) back

-- version 1 everywhere stays so when a place takes version 1, and gives each of so many places version 1
pub still_ones : (n i : ℕ) → i < n → set {A = ℕ} (replicate n 1) i 1 ≡ replicate n 1
still_ones n i low = sym (ap (set (replicate n 1) i) (get_or-replicate {A = ℕ} n i 1 0 low)) ∙ set-get_or (replicate n 1) i 0

pub ones_set : (s : Search) (p : Part) → p.versions ≡ replicate most_places 1 → p.opened ≡ 0 → part_in s p ≡ replicate s.grid.places 1
ones_set s p ones none = ap₂ (λ i vs. drop i (take s.grid.places vs)) none ones ∙ take-replicate s.grid.places most_places 1 s.grid.few_places
