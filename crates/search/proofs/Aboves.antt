-- A line's constant joined with the amounts above its level, one position lower at a time. Assumes nothing.
use Rattle.std.proofs.Common.{◌≡◌, ℕ, zero, suc, ◌+◌, ◌-◌, ◌<◌, ◌≤◌, ◌&&◌, false, leb, List, length, get_or, take, drop, ℤ, sym, ap, ◌∙◌, ⊎_elim, arith, length-drop}
use Rattle.std.proofs.lemmas.List.{drop_more, drop_all, get_or-take, length-take-le}
use Rattle.std.proofs.lemmas.Bool.{le-leb, lt-leb, and_left, cases_lt}
use Rattle.rules.specs.declared.lines.Line.{Line}
use Rattle.rules.specs.Sheets.{Limits}
use Rattle.rules.specs.Grounds.{Setting, open_places, joined_above, line_stands}
use Rattle.rules.proofs.Joined.{joined_on, joined_off}

-- the versions of all positions, of which those from an index on are a part-choice
module _ (S : Setting) (vs : List ℕ) (whole : length vs ≡ S.places) where
  pub opened_is : (i : ℕ) → i ≤ length vs → open_places S (drop i vs) ≡ i
  opened_is i within = ap (λ n. S.places - n) (length-drop i vs) ∙ omega arith

  module _ (row level : ℕ) (k : ℤ) where
    -- one position lower, above the level
    pub above_more : (i : ℕ) → i < length vs → level ≤ i → joined_above S row level k (drop i vs) ≡ (S.joining row).join (joined_above S row level k (drop (i + 1) vs)) (S.amount row (i + 1) (get_or vs i 0))
    above_more i within low =
        let at = opened_is (i + 1) (omega arith) in
        ap (joined_above S row level k) (drop_more vs i 0 within)
        ∙ joined_on S row level k (get_or vs i 0) (drop (i + 1) vs) (omega arith)
        ∙ ap (λ p. (S.joining row).join (joined_above S row level k (drop (i + 1) vs)) (S.amount row p (get_or vs i 0))) at

    -- no position is left
    pub above_none : (i : ℕ) → length vs ≤ i → joined_above S row level k (drop i vs) ≡ k
    above_none i past = ap (joined_above S row level k) (drop_all i vs past)

    -- positions up to the level have no say
    above_skip : (d i : ℕ) → i + d ≡ level → joined_above S row level k (drop i vs) ≡ joined_above S row level k (drop level vs)
    above_skip zero i is = ap (λ n. joined_above S row level k (drop n vs)) (omega arith)
    above_skip (suc d) i is =
        ⊎_elim
        (λ lt.
        ap (joined_above S row level k) (drop_more vs i 0 lt)
        ∙ joined_off S row level k (get_or vs i 0) (drop (i + 1) vs) (omega (arith, opened_is (i + 1) (omega arith)))
        ∙ above_skip d (i + 1) (omega arith))
        (λ le. above_none i le ∙ sym (above_none level (omega arith)))
        (cases_lt i (length vs))

  -- whether a line stands, once its level is compared
  line_is : (L : Limits) (l : Line) (opened : ℕ) → opened ≤ length vs → line_stands S L (drop opened vs) l ≡ (leb opened l.level && (S.joining l.row).worse (joined_above S l.row l.level l.constant (drop opened vs)) (L l.row))
  line_is L l opened within =
      ap (λ n. leb n l.level && (S.joining l.row).worse (joined_above S l.row l.level l.constant (drop opened vs)) (L l.row)) (opened_is opened within)

  pub line_off : (L : Limits) (l : Line) (opened : ℕ) → opened ≤ length vs → l.level < opened → line_stands S L (drop opened vs) l ≡ false
  line_off L l opened within low = line_is L l opened within ∙ and_left (leb opened l.level) _ (lt-leb opened l.level low)

  pub line_on : (L : Limits) (l : Line) (opened : ℕ) → opened ≤ length vs → opened ≤ l.level → line_stands S L (drop opened vs) l ≡ (S.joining l.row).worse (joined_above S l.row l.level l.constant (drop l.level vs)) (L l.row)
  line_on L l opened within low =
      line_is L l opened within
      ∙ ap (λ b. b && (S.joining l.row).worse (joined_above S l.row l.level l.constant (drop opened vs)) (L l.row)) (le-leb opened l.level low)
      ∙ ap (λ z. (S.joining l.row).worse z (L l.row)) (above_skip l.row l.level l.constant (l.level - opened) opened (omega arith))

-- the same over the first so many of a table
module _ (S : Setting) (vs : List ℕ) (long : S.places ≤ length vs) (row level : ℕ) (k : ℤ) where
  whole : length (take S.places vs) ≡ S.places
  whole = length-take-le S.places vs long

  pub above_down : (j : ℕ) → 0 < j → j ≤ S.places → level < j → joined_above S row level k (drop (j - 1) (take S.places vs)) ≡ (S.joining row).join (joined_above S row level k (drop j (take S.places vs))) (S.amount row (j - 1 + 1) (get_or vs (j - 1) 0))
  above_down j some within low =
      let back : j - 1 + 1 ≡ j = omega arith in
      above_more S (take S.places vs) whole row level k (j - 1) (omega (arith, whole)) (omega arith)
      ∙ ap (λ n. (S.joining row).join (joined_above S row level k (drop n (take S.places vs))) (S.amount row (j - 1 + 1) (get_or (take S.places vs) (j - 1) 0))) back
      ∙ ap (λ x. (S.joining row).join (joined_above S row level k (drop j (take S.places vs))) (S.amount row (j - 1 + 1) x)) (get_or-take S.places vs (j - 1) 0 (omega arith))
