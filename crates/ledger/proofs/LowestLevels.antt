-- The lowest level of a ground, as its record tells it. Assumes nothing.
use Rattle.std.proofs.Common.{◌≡◌, ℕ, zero, suc, ◌<◌, min, List, [], ◌∷◌, ◌++◌, length, map, get_or, set, take, sym, refl, ap, ap₂, ◌∙◌, arith, ◌+◌}
use Rattle.std.proofs.Math.Nat.{min_comm, min-zero, zero-min, suc-min-suc}
use Rattle.std.proofs.lemmas.List.{get_or-map, map_push, same_from_push, length-map}
use Rattle.rules.specs.declared.lines.Line.{Line}
use Rattle.rules.specs.Bounds.{most_places}
use Rattle.rules.specs.Grounds.{Ground}
use Rattle.ledger.specs.Tables.{cut, grounds_of, lowest_level, Lowest}
use Rattle.ledger.specs.Model.{held}
use Rattle.ledger.specs.declared.records.GroundRecord.{GroundRecord}
use Rattle.ledger.specs.declared.table.Ledger.{Ledger}
use Rattle.ledger.proofs.Cuts.{set_last, records_are, put_behind}

min_assoc : (a b c : ℕ) → min a (min b c) ≡ min (min a b) c
min_assoc zero b c = simp (zero-min) refl
min_assoc (suc a) zero c = simp (zero-min, min-zero) refl
min_assoc (suc a) (suc b) zero = simp (min-zero) refl
min_assoc (suc a) (suc b) (suc c) = simp (suc-min-suc) (ap suc (min_assoc a b c))

abbrev told : GroundRecord → ℕ
told g = g.lowest

-- a line more
line_more : (g : Ground) (x : Line) → lowest_level (g ++ x ∷ []) ≡ min (lowest_level g) x.level
line_more [] x = min_comm x.level most_places
line_more (l ∷ g) x = ap (min l.level) (line_more g x) ∙ min_assoc l.level (lowest_level g) x.level

-- a record that is read
pub record_told : (ls : List Line) (gs : List GroundRecord) (k : ℕ) (d : GroundRecord) → Lowest ls gs → k < length gs → (get_or gs k d).lowest ≡ lowest_level (get_or (grounds_of ls gs) k [])
record_told ls gs k d is low =
    sym (get_or-map told gs k d 0 low) ∙ ap (λ ns. get_or ns k 0) is ∙ get_or-map lowest_level (grounds_of ls gs) k [] 0 (omega (arith, length-map gs (cut ls)))

-- a record more
pub record_more : (ls : List Line) (gs : List GroundRecord) (g : GroundRecord) → Lowest ls gs → g.lowest ≡ lowest_level (cut ls g) → Lowest ls (gs ++ g ∷ [])
record_more ls gs g is new =
    map_push told gs g
    ∙ ap₂ (λ ns m. ns ++ m ∷ []) is new
    ∙ sym (ap (map lowest_level) (map_push (cut ls) gs g) ∙ map_push lowest_level (grounds_of ls gs) (cut ls g))

-- a line more behind all others
pub still_lowest : (s : Ledger) (n : ℕ) (d : GroundRecord) → suc n ≡ length s.grounds.items → (x : Line) → Lowest (s.lines.items ++ x ∷ []) (set s.grounds.items n (record { start = (get_or s.grounds.items n d).start; end = length s.lines.items + 1; lowest = min (get_or s.grounds.items n d).lowest x.level }))
still_lowest s n d last x =
    let ls = s.lines.items in
    let gs = take n s.grounds.items in
    let g = get_or s.grounds.items n d in
    let more : GroundRecord = record { start = g.start; end = length ls + 1; lowest = min g.lowest x.level } in
    let are : held s ≡ grounds_of ls gs ++ cut ls g ∷ [] = ap (grounds_of ls) (records_are s n d last) ∙ map_push (cut ls) gs g in
    let was = same_from_push (map told gs) (map lowest_level (grounds_of ls gs)) g.lowest (lowest_level (cut ls g)) (sym (map_push told gs g) ∙ ap (map told) (sym (records_are s n d last)) ∙ s.lowest ∙ ap (map lowest_level) are ∙ map_push lowest_level (grounds_of ls gs) (cut ls g)) in
    ap (map told) (set_last s.grounds.items n more last)
    ∙ map_push told gs more
    ∙ ap₂ (λ ns m. ns ++ m ∷ []) was.0 (ap (λ m. min m x.level) was.1 ∙ sym (line_more (cut ls g) x))
    ∙ sym (ap (map lowest_level) (put_behind s n d last x more.lowest (grounds_of ls gs) (cut ls g) are) ∙ map_push lowest_level (grounds_of ls gs) (cut ls g ++ x ∷ []))
