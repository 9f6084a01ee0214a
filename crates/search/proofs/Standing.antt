-- The grounds that stand, one line and one ground more at a time. Assumes nothing.
use Rattle.std.proofs.Common.{◌≡◌, ℕ, zero, suc, ◌+◌, ◌-◌, ◌<◌, ◌≤◌, true, false, List, [], ◌∷◌, length, get_or, drop, Some, None, Option, MatchOption, IfSome, subst, sym, refl, ap, ◌∙◌, ⊎_elim, inl, inr, arith, length-append, ◌&&◌}
use Rattle.std.proofs.lemmas.List.{at_drop_more, at_drop_all, get_or_append_left, get_or-append_right, get_or_push}
use Rattle.std.proofs.Math.Nat.{le-min}
use Rattle.std.proofs.Math.Bool.{and-false}
use Rattle.std.proofs.lemmas.Bool.{cond-true, cond-false, cond_both, cases_lt, lt-leb}
use Rattle.std.proofs.lemmas.Option.{none-some, same_Some}
use Rattle.rules.specs.Bounds.{most_places}
use Rattle.rules.specs.Sheets.{Limits}
use Rattle.rules.specs.Grounds.{Setting, Part, Ground, open_places, joined_above, line_stands, stands, first_standing, starting, ledger, of_row}
use Rattle.ledger.specs.Tables.{lowest_level}
use Rattle.search.specs.States.{picked}

module _ (S : Setting) (L : Limits) (s : Part) where
  module _ (gs : List Ground) (i : ℕ) where
    pub first_found : i < length gs → stands S L s (get_or gs i []) ≡ true → first_standing S L (drop i gs) s ≡ Some (get_or gs i [])
    first_found within on = at_drop_more (λ t. first_standing S L t s) gs i [] within ∙ cond-true (stands S L s (get_or gs i [])) _ _ on

    pub first_more : i < length gs → stands S L s (get_or gs i []) ≡ false → first_standing S L (drop i gs) s ≡ first_standing S L (drop (i + 1) gs) s
    first_more within falls = at_drop_more (λ t. first_standing S L t s) gs i [] within ∙ cond-false (stands S L s (get_or gs i [])) _ _ falls

    pub first_none : length gs ≤ i → first_standing S L (drop i gs) s ≡ None
    first_none past = at_drop_all (λ t. first_standing S L t s) gs i past

  -- the first that stands by its index, those below it not standing
  module _ (gs : List Ground) where
    passed : (i : ℕ) → i ≤ length gs → ((k : ℕ) → k < i → stands S L s (get_or gs k []) ≡ false) → first_standing S L gs s ≡ first_standing S L (drop i gs) s
    passed zero within fall = refl
    passed (suc i) within fall =
        let on : i + 1 ≡ suc i = omega arith in
        passed i (omega arith) (λ k low. fall k (omega arith)) ∙ first_more gs i (omega arith) (fall i (omega arith)) ∙ ap (λ n. first_standing S L (drop n gs) s) on

    -- what is found first stands, and so nothing changes where the look begins there
    found_stands : (hs : List Ground) (g : Ground) → Some g ≡ first_standing S L hs s → stands S L s g ≡ true
    found_stands [] g e = absurd (none-some g (sym e))
    found_stands (h ∷ hs) g e =
        cond_both (stands S L s h) (Some h) (first_standing S L hs s) (λ o. Some g ≡ o → stands S L s g ≡ true)
        (λ on is. subst (λ x. stands S L s x ≡ true) (sym (same_Some g h is)) on)
        (λ off is. found_stands hs g is)
        e

    pub first_passes : (r : Option ℕ) → picked gs r ≡ first_standing S L gs s → IfSome r (λ i. i < length gs) → IfSome r (λ i. first_standing S L gs s ≡ first_standing S L (drop i gs) s)
    first_passes None is there = tt
    first_passes (Some i) is there = sym is ∙ sym (first_found gs i there (found_stands gs (get_or gs i []) is))

    pub first_is : (r : Option ℕ) (n : ℕ) → n ≡ length gs → MatchOption r ((k : ℕ) → 0 ≤ k → k < n → stands S L s (get_or gs k []) ≡ false) (λ i. (0 ≤ i) × (i < n) × (stands S L s (get_or gs i []) ≡ true) × ((k : ℕ) → 0 ≤ k → k < i → stands S L s (get_or gs k []) ≡ false)) → picked gs r ≡ first_standing S L gs s
    first_is None n is fall = sym (passed n (omega arith) (λ k low. fall k (omega arith) low) ∙ first_none gs n (omega arith))
    first_is (Some i) n is found = sym (passed i (omega (arith, found.1)) (λ k low. found.3 k (omega arith) low) ∙ first_found gs i (omega (arith, found.1)) found.2)

-- the ledger by its index: the starting ground of each row, and then the learned ones
module _ (S : Setting) (gs : List Ground) where
  starting_length : (r : ℕ) → length (starting S r) ≡ suc r
  starting_length zero = refl
  starting_length (suc r) = length-append (starting S r) (of_row S (suc r) ∷ []) ∙ omega (arith, starting_length r)

  starting_at : (n r : ℕ) → r ≤ n → get_or (starting S n) r [] ≡ of_row S r
  starting_at zero r h = let e : r ≡ 0 = omega arith in ap (λ k. get_or (starting S 0) k []) e ∙ ap (of_row S) (sym e)
  starting_at (suc n) r h =
      ⊎_elim
      (λ lt. get_or_append_left (starting S n) _ [] r (omega (arith, starting_length n)) ∙ starting_at n r (omega arith))
      (λ le. let e : r ≡ suc n = omega arith in get_or_push (starting S n) (of_row S (suc n)) [] r (starting_length n ∙ sym e) ∙ ap (of_row S) (sym e))
      (cases_lt r (suc n))

  pub ledger_length : length (ledger S gs) ≡ S.last_row + 1 + length gs
  ledger_length = length-append (starting S S.last_row) gs ∙ omega (arith, starting_length S.last_row)

  pub ledger_start : (r : ℕ) → r ≤ S.last_row → of_row S r ≡ get_or (ledger S gs) r []
  ledger_start r h = sym (get_or_append_left (starting S S.last_row) gs [] r (omega (arith, starting_length S.last_row)) ∙ starting_at S.last_row r h)

  pub ledger_learned : (i : ℕ) → S.last_row < i → get_or gs (i - S.last_row - 1) [] ≡ get_or (ledger S gs) i []
  ledger_learned i h =
      let at : i - suc S.last_row ≡ i - S.last_row - 1 = omega arith in
      sym (get_or-append_right (starting S S.last_row) gs (suc S.last_row) i [] (starting_length S.last_row) (omega arith) ∙ ap (λ k. get_or gs k []) at)

-- a ground with a line at an open place doesn't stand
pub lowest_falls : (S : Setting) (L : Limits) (s : Part) (g : Ground) → open_places S s ≤ most_places → lowest_level g < open_places S s → stands S L s g ≡ false
lowest_falls S L s [] few low = absurd (omega arith)
lowest_falls S L s (l ∷ g) few low =
    let worse = (S.joining l.row).worse (joined_above S l.row l.level l.constant s) (L l.row) in
    elim (cases_lt l.level (open_places S s)) [
      | inl below ↦ ap (λ b. (b && worse) && stands S L s g) (lt-leb (open_places S s) l.level below)
      | inr above ↦ elim (cases_lt (lowest_level g) (open_places S s)) [
        | inl rest ↦ ap (λ b. line_stands S L s l && b) (lowest_falls S L s g few rest) ∙ and-false (line_stands S L s l)
        | inr high ↦ absurd (omega (arith, le-min above high))
      ]
    ]
