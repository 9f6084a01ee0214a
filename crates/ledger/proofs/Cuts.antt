-- What a write to the tables does to the grounds. Assumes nothing.
use Rattle.std.proofs.Common.{◌≡◌, ℕ, zero, suc, ◌+◌, ◌-◌, ◌<◌, ◌≤◌, true, eqb, leb, ltb, ◌&&◌, List, [], ◌∷◌, ◌++◌, length, get_or, set, take, drop, sym, refl, ap, ◌∙◌, arith, length-append, length-drop}
use Rattle.std.proofs.lemmas.List.{take_all, drop_all, take-append-le, drop-append-le, set_split, set-get_or, map_push, same_from_push, length-map}
use Rattle.std.proofs.lemmas.List.Edits.{length-between}
use Rattle.std.proofs.lemmas.Bool.{and_parts, and_from, leb-true, le-leb, ltb-true, eqb-true, eq-eqb}
use Rattle.rules.specs.declared.lines.Line.{Line}
use Rattle.rules.specs.Grounds.{Ground}
use Rattle.rules.specs.Bounds.{most_grounds, most_lines}
use Rattle.rules.specs.Search.{line_count, room}
use Rattle.arrayvec.specs.ArrayVec.{array_vec_len}
use Rattle.ledger.specs.Lines.{AllNear, all_near}
use Rattle.ledger.specs.Tables.{cut, grounds_of, adjoin}
use Rattle.ledger.specs.Model.{held, takes}
use Rattle.ledger.specs.declared.records.GroundRecord.{GroundRecord}
use Rattle.ledger.specs.declared.table.Ledger.{Ledger}
use Rattle.ledger.proofs.Nears.{near_none, near_part, all_near_since}

near_cuts : (ls : List Line) (gs : List GroundRecord) (k : ℕ) → AllNear ls → AllNear (get_or (grounds_of ls gs) k [])
near_cuts ls [] k all = λ j. near_none
near_cuts ls (g ∷ gs) zero all = near_part g.start (g.end - g.start) ls all
near_cuts ls (g ∷ gs) (suc k) all = near_cuts ls gs k all

-- the lines of each ground are ones that the tables hold
pub held_near : (s : Ledger) (k : ℕ) → AllNear (get_or (held s) k [])
held_near s k = near_cuts s.lines.items s.grounds.items k s.near

-- what the first record tells
first_adjoins : (g : GroundRecord) (gs : List GroundRecord) (from to : ℕ) → adjoin (g ∷ gs) from to ≡ true → (g.start ≡ from) × (from ≤ g.end) × (adjoin gs g.end to ≡ true)
first_adjoins g gs from to h =
    let both = and_parts (eqb g.start from && leb from g.end) _ h in
    let ends = and_parts (eqb g.start from) _ both.0 in
    (eqb-true _ _ ends.0, leb-true _ _ ends.1, both.1)

adjoins : (g : GroundRecord) (gs : List GroundRecord) (from to : ℕ) → g.start ≡ from → from ≤ g.end → adjoin gs g.end to ≡ true → adjoin (g ∷ gs) from to ≡ true
adjoins g gs from to first long rest = and_from (eqb g.start from && leb from g.end) _ (and_from (eqb g.start from) _ (eq-eqb _ _ first) (le-leb _ _ long)) rest

adjoin_upward : (gs : List GroundRecord) (from to : ℕ) → adjoin gs from to ≡ true → from ≤ to
adjoin_upward [] from to h = omega (arith, eqb-true from to h)
adjoin_upward (g ∷ gs) from to h = let first = first_adjoins g gs from to h in omega (arith, first.1, adjoin_upward gs g.end to first.2)

-- each ground lies within the table
adjoin_at : (gs : List GroundRecord) (from to k : ℕ) (d : GroundRecord) → adjoin gs from to ≡ true → k < length gs → ((get_or gs k d).start ≤ (get_or gs k d).end) × ((get_or gs k d).end ≤ to)
adjoin_at [] from to k d h within = absurd (omega arith)
adjoin_at (g ∷ gs) from to zero d h within = let first = first_adjoins g gs from to h in (omega (arith, first.0, first.1), adjoin_upward gs g.end to first.2)
adjoin_at (g ∷ gs) from to (suc k) d h within = adjoin_at gs g.end to k d (first_adjoins g gs from to h).2 (omega arith)

-- the grounds have the lines of the table
adjoin_count : (ls : List Line) (gs : List GroundRecord) (from to : ℕ) → adjoin gs from to ≡ true → to ≤ length ls → line_count (grounds_of ls gs) + from ≡ to
adjoin_count ls [] from to h within = omega (arith, eqb-true from to h)
adjoin_count ls (g ∷ gs) from to h within =
    let first = first_adjoins g gs from to h in
    let upward = adjoin_upward gs g.end to first.2 in
    let long = length-between ls g.start g.end (omega arith) in
    omega (arith, first.0, first.1, long, adjoin_count ls gs g.end to first.2 within)

-- a record more, and what the last one tells
pub adjoin_push : (gs : List GroundRecord) (g : GroundRecord) (from to : ℕ) → adjoin gs from to ≡ true → g.start ≡ to → to ≤ g.end → adjoin (gs ++ g ∷ []) from g.end ≡ true
adjoin_push [] g from to h first long = let at = eqb-true from to h in adjoins g [] from g.end (omega arith) (omega arith) (eq-eqb g.end g.end refl)
adjoin_push (b ∷ gs) g from to h first long = let was = first_adjoins b gs from to h in adjoins b (gs ++ g ∷ []) from g.end was.0 was.1 (adjoin_push gs g b.end to was.2 first long)

adjoin_last : (gs : List GroundRecord) (g : GroundRecord) (from to : ℕ) → adjoin (gs ++ g ∷ []) from to ≡ true → (adjoin gs from g.start ≡ true) × (g.start ≤ g.end) × (g.end ≡ to)
adjoin_last [] g from to h = let first = first_adjoins g [] from to h in (eq-eqb from g.start (sym first.0), omega (arith, first.0, first.1), eqb-true g.end to first.2)
adjoin_last (b ∷ gs) g from to h =
    let first = first_adjoins b (gs ++ g ∷ []) from to h in
    let last = adjoin_last gs g b.end to first.2 in
    (adjoins b gs from g.start first.0 first.1 last.0, last.1, last.2)

-- a line behind all others leaves the grounds before it, and goes to one that reaches to it
module _ (ls : List Line) (x : Line) where
  cut_same : (g : GroundRecord) → g.start ≤ g.end → g.end ≤ length ls → cut (ls ++ x ∷ []) g ≡ cut ls g
  cut_same g start end =
      ap (take (g.end - g.start)) (drop-append-le g.start ls (x ∷ []) (omega arith))
      ∙ take-append-le (g.end - g.start) (drop g.start ls) (x ∷ []) (simp length-drop (omega arith))

  grounds_same : (gs : List GroundRecord) (from to : ℕ) → adjoin gs from to ≡ true → to ≤ length ls → grounds_of (ls ++ x ∷ []) gs ≡ grounds_of ls gs
  grounds_same [] from to h within = refl
  grounds_same (g ∷ gs) from to h within =
      let first = first_adjoins g gs from to h in
      let upward = adjoin_upward gs g.end to first.2 in
      ap (λ t. t ∷ grounds_of (ls ++ x ∷ []) gs) (cut_same g (omega (arith, first.0, first.1)) (omega arith)) ∙ ap (λ t. cut ls g ∷ t) (grounds_same gs g.end to first.2 within)

  cut_more : (start m n : ℕ) → start ≤ length ls → cut (ls ++ x ∷ []) (record { start = start; end = length ls + 1; lowest = m }) ≡ cut ls (record { start = start; end = length ls; lowest = n }) ++ x ∷ []
  cut_more start m n within =
      let long = length-drop start ls in
      ap (take (length ls + 1 - start)) (drop-append-le start ls (x ∷ []) within)
      ∙ take_all (length ls + 1 - start) (drop start ls ++ x ∷ []) (simp length-append (omega arith))
      ∙ ap (λ t. t ++ x ∷ []) (sym (take_all (length ls - start) (drop start ls) (omega arith)))

-- the last record of a ledger written over
pub set_last : {X : Type 0} (xs : List X) (n : ℕ) (y : X) → suc n ≡ length xs → set xs n y ≡ take n xs ++ y ∷ []
set_last xs n y last = set_split xs n y (omega arith) ∙ ap (λ t. take n xs ++ y ∷ t) (drop_all (suc n) xs (omega arith))

module _ (s : Ledger) (n : ℕ) (d : GroundRecord) (last : suc n ≡ length s.grounds.items) where
  pub records_are : s.grounds.items ≡ take n s.grounds.items ++ get_or s.grounds.items n d ∷ []
  records_are = sym (set-get_or s.grounds.items n d) ∙ set_last s.grounds.items n (get_or s.grounds.items n d) last

  last_adjoins : (adjoin (take n s.grounds.items) 0 (get_or s.grounds.items n d).start ≡ true) × ((get_or s.grounds.items n d).start ≤ (get_or s.grounds.items n d).end) × ((get_or s.grounds.items n d).end ≡ length s.lines.items)
  last_adjoins = adjoin_last (take n s.grounds.items) (get_or s.grounds.items n d) 0 (length s.lines.items) (ap (λ gs. adjoin gs 0 (length s.lines.items)) (sym records_are) ∙ s.adjoin)

  -- it reaches further
  pub still_adjoin : (e m : ℕ) → length s.lines.items ≤ e → adjoin (set s.grounds.items n (record { start = (get_or s.grounds.items n d).start; end = e; lowest = m })) 0 e ≡ true
  still_adjoin e m long =
      let was = last_adjoins in
      let g : GroundRecord = record { start = (get_or s.grounds.items n d).start; end = e; lowest = m } in
      ap (λ gs. adjoin gs 0 e) (set_last s.grounds.items n g last)
      ∙ adjoin_push (take n s.grounds.items) g 0 g.start was.0 refl (omega (arith, was.1, was.2))

  -- to a line behind all others, which is one more in the newest ground
  pub put_behind : (x : Line) (m : ℕ) (older : List Ground) (newest : Ground) → held s ≡ older ++ newest ∷ [] → grounds_of (s.lines.items ++ x ∷ []) (set s.grounds.items n (record { start = (get_or s.grounds.items n d).start; end = length s.lines.items + 1; lowest = m })) ≡ older ++ (newest ++ x ∷ []) ∷ []
  put_behind x m older newest was =
      let ls = s.lines.items in
      let gs = take n s.grounds.items in
      let g = get_or s.grounds.items n d in
      let more : GroundRecord = record { start = g.start; end = length ls + 1; lowest = m } in
      let at = last_adjoins in
      let parts = same_from_push (grounds_of ls gs) older (cut ls g) newest (sym (map_push (cut ls) gs g) ∙ ap (grounds_of ls) (sym records_are) ∙ was) in
      ap (grounds_of (ls ++ x ∷ [])) (set_last s.grounds.items n more last)
      ∙ map_push (cut (ls ++ x ∷ [])) gs more
      ∙ ap (λ (t : List Ground). t ++ cut (ls ++ x ∷ []) more ∷ []) (grounds_same ls x gs 0 g.start at.0 (omega (arith, at.1, at.2)) ∙ parts.0)
      ∙ ap (λ (t : Ground). older ++ t ∷ []) (cut_more ls x g.start m g.lowest (omega (arith, at.1, at.2)) ∙ ap (λ (e : ℕ). cut ls (record { start = g.start; end = e; lowest = g.lowest }) ++ x ∷ []) (sym at.2) ∙ ap (λ (t : Ground). t ++ x ∷ []) parts.1)

-- the lines in use are those of the grounds
pub counted : (s : Ledger) → line_count (held s) ≡ length s.lines.items
counted s = omega (arith, adjoin_count s.lines.items s.grounds.items 0 (length s.lines.items) s.adjoin (omega arith))

-- the index of the newest ground
pub last_index : (s : Ledger) (count : ℕ) → 0 < length (held s) → count ≡ length s.grounds.items → suc (count - 1) ≡ length s.grounds.items
last_index s count some is = omega (arith, some, is, length-map s.grounds.items (cut s.lines.items))

-- a record that is read
pub record_within : (s : Ledger) (k : ℕ) (r : GroundRecord) → k < length s.grounds.items → r ≡ get_or s.grounds.items k r → (get_or s.grounds.items k r ≡ r) × (r.start ≤ r.end) × (r.end ≤ length s.lines.items)
record_within s k r within is =
    let at = adjoin_at s.grounds.items 0 (length s.lines.items) k r s.adjoin within in
    (sym is, rw is at.0, rw is at.1)

-- what there is space for has it
pub room_fits : (gs : List Ground) (g : Ground) → room gs g ≡ true → line_count gs + length g ≤ most_lines
room_fits gs g h = leb-true _ _ (and_parts (ltb (length gs) most_grounds) _ h).1

-- what is taken has space, and the tables hold its lines
pub takes_counts : (s : Ledger) (g : Ground) → takes (held s) g ≡ true → (array_vec_len s.grounds < most_grounds) × (array_vec_len s.lines + length g ≤ most_lines) × AllNear g
takes_counts s g h =
    let both = and_parts (room (held s) g) (all_near g) h in
    let few = ltb-true _ _ (and_parts (ltb (length (held s)) most_grounds) _ both.0).0 in
    (omega (arith, few, length-map s.grounds.items (cut s.lines.items)), omega (arith, counted s, room_fits (held s) g both.0), all_near_since g both.1)
