-- Lines that are put together stand where each of them does. Assumes nothing.
use Rattle.std.proofs.Common.{◌≡◌, ℕ, ◌≤◌, true, false, leb, List, [], ◌∷◌, ℤ, sym, refl, subst}
use Rattle.std.specs.List.{AllByRecursion}
use Rattle.std.proofs.lemmas.Bool.{cond-true, cond-false, cond_both, and_parts, and_from, eqb-true}
use Rattle.rules.specs.declared.lines.Line.{Line}
use Rattle.rules.specs.Sheets.{Limits}
use Rattle.rules.specs.Grounds.{Ground, Part, Setting, SoundSetting, before, joined_above, kept, line_stands, open_places, same_place, stands, with_line, with_lines}
use Rattle.rules.proofs.Bools.{split, clash}
use Rattle.rules.proofs.Joined.{joined_monotone, still_worse}

module _ (S : Setting) where
  -- the line's row is one of the setting's
  abbrev pub Known : Line → Type 0
  Known l = l.row ≤ S.last_row

  abbrev line : ℕ → ℕ → ℤ → Line
  line r q k = record { row = r; level = q; constant = k }

  -- the test whether one line is at the place of another
  same_row : (a b : Line) → same_place a b ≡ true → a.row ≡ b.row
  same_row a b h = eqb-true a.row b.row (and_parts _ _ h).0

  same_level : (a b : Line) → same_place a b ≡ true → a.level ≡ b.level
  same_level a b h = eqb-true a.level b.level (and_parts _ _ h).1

  -- both lines stand at the part-choice s
  module _ (W : SoundSetting S) (L : Limits) (s : Part) where
    not_worse_back : (r : ℕ) → r ≤ S.last_row → (x y : ℤ) → (S.joining r).worse x y ≡ true → (S.joining r).worse y x ≡ false
    not_worse_back r h x y w =
        split ((S.joining r).worse y x)
        (λ e. clash ((W.laws r h).transitive x y x w e) ((W.laws r h).irreflexive x))
        (λ e. e)

    -- a line whose constant isn't worse stands only where the other one at its place does
    line_gives : (r q : ℕ) → r ≤ S.last_row → (x y : ℤ) → (S.joining r).worse y x ≡ false → line_stands S L s (line r q y) ≡ true → line_stands S L s (line r q x) ≡ true
    line_gives r q h x y w p =
        let parts = and_parts (leb (open_places S s) q) ((S.joining r).worse (joined_above S r q y s) (L r)) p in
        and_from _ _ parts.0
        (still_worse S r (W.laws r h) (joined_above S r q x s) (joined_above S r q y s) (L r) (joined_monotone S r (W.laws r h) q y x s w) parts.1)

    at_place : (a : Line) (r q : ℕ) → a.row ≡ r → a.level ≡ q → a ≡ line r q a.constant
    at_place a r q e d = λ i. record { row = e i; level = d i; constant = a.constant }

    -- the line that is kept of two stands only where both do
    kept_gives : (a b : Line) → Known a → same_place a b ≡ true → line_stands S L s (kept S a b) ≡ true → (line_stands S L s a ≡ true) × (line_stands S L s b ≡ true)
    kept_gives a b k e h =
        let b_is : b ≡ line a.row a.level b.constant = at_place b a.row a.level (sym (same_row a b e)) (sym (same_level a b e)) in
        split ((S.joining a.row).worse a.constant b.constant)
        (λ w.
        let g : line_stands S L s b ≡ true = subst (λ x. line_stands S L s x ≡ true) (cond-true _ _ _ w) h in (
          line_gives a.row a.level k a.constant b.constant (not_worse_back a.row k a.constant b.constant w)
              (subst (λ x. line_stands S L s x ≡ true) b_is g),
          g,
        ))
        (λ w.
        let g : line_stands S L s a ≡ true = subst (λ x. line_stands S L s x ≡ true) (cond-false _ _ _ w) h in
        (g, subst (λ x. line_stands S L s x ≡ true) (sym b_is) (line_gives a.row a.level k b.constant a.constant w g)))

    pub with_line_gives : (a : Line) (g : Ground) → Known a → stands S L s (with_line S a g) ≡ true → (line_stands S L s a ≡ true) × (stands S L s g ≡ true)
    with_line_gives a [] k h = ((and_parts _ _ h).0, refl)
    with_line_gives a (b ∷ g) k h =
        split (before a b)
        (λ e. and_parts _ _ (subst (λ x. stands S L s x ≡ true) (cond-true _ _ _ e) h))
        (λ e.
        let h₁ = subst (λ x. stands S L s x ≡ true) (cond-false _ _ _ e) h in
        split (same_place a b)
        (λ d.
        let h₂ = and_parts _ _ (subst (λ x. stands S L s x ≡ true) (cond-true _ _ _ d) h₁) in
        let both = kept_gives a b k d h₂.0 in
        (both.0, and_from _ _ both.1 h₂.1))
        (λ d.
        let h₂ = and_parts _ _ (subst (λ x. stands S L s x ≡ true) (cond-false _ _ _ d) h₁) in
        let rest = with_line_gives a g k h₂.1 in
        (rest.0, and_from _ _ h₂.0 rest.1)))

    pub with_lines_gives : (ls : List Line) (g : Ground) → AllByRecursion Known ls → stands S L s (with_lines S ls g) ≡ true → (stands S L s ls ≡ true) × (stands S L s g ≡ true)
    with_lines_gives [] g k h = (refl, h)
    with_lines_gives (a ∷ ls) g k h =
        let rest = with_lines_gives ls (with_line S a g) k.1 h in
        let here = with_line_gives a g k.0 rest.1 in
        (and_from _ _ here.0 rest.0, here.1)

    -- and the other way round: what is put together of lines that stand stands
    pub with_line_stands : (a : Line) (g : Ground) → line_stands S L s a ≡ true → stands S L s g ≡ true → stands S L s (with_line S a g) ≡ true
    with_line_stands a [] h k = and_from _ _ h refl
    with_line_stands a (b ∷ g) h k =
        let parts = and_parts _ _ k in
        cond_both (before a b) (a ∷ b ∷ g) _ (λ x. stands S L s x ≡ true)
        (λ e. and_from _ _ h k)
        (λ e. cond_both (same_place a b) (kept S a b ∷ g) _ (λ x. stands S L s x ≡ true)
        (λ d. and_from _ _ (cond_both ((S.joining a.row).worse a.constant b.constant) b a (λ x. line_stands S L s x ≡ true) (λ _. parts.0) (λ _. h)) parts.1)
        (λ d. and_from _ _ parts.0 (with_line_stands a g h parts.1)))

    pub with_lines_stand : (ls : List Line) (g : Ground) → stands S L s ls ≡ true → stands S L s g ≡ true → stands S L s (with_lines S ls g) ≡ true
    with_lines_stand [] g h k = k
    with_lines_stand (a ∷ ls) g h k =
        let parts = and_parts _ _ h in
        with_lines_stand ls (with_line S a g) parts.1 (with_line_stands a g parts.0 k)

  -- what holds of all lines stays so
  pub with_line_all : (P : Line → Type 0) (a : Line) (g : Ground) → P a → AllByRecursion P g → AllByRecursion P (with_line S a g)
  with_line_all P a [] h k = (h, tt)
  with_line_all P a (b ∷ g) h k =
      cond_both (before a b) (a ∷ b ∷ g) _ (λ x. AllByRecursion P x)
      (λ e. (h, k))
      (λ e. cond_both (same_place a b) (kept S a b ∷ g) _ (λ x. AllByRecursion P x)
      (λ d. (cond_both ((S.joining a.row).worse a.constant b.constant) b a P (λ _. k.0) (λ _. h), k.1))
      (λ d. (k.0, with_line_all P a g h k.1)))

  pub with_lines_all : (P : Line → Type 0) (ls : List Line) (g : Ground) → AllByRecursion P ls → AllByRecursion P g → AllByRecursion P (with_lines S ls g)
  with_lines_all P [] g h k = k
  with_lines_all P (a ∷ ls) g h k = with_lines_all P ls (with_line S a g) h.1 (with_line_all P a g h.0 k)

  pub with_lines_known : (ls : List Line) (g : Ground) → AllByRecursion Known ls → AllByRecursion Known g → AllByRecursion Known (with_lines S ls g)
  with_lines_known ls g h k = with_lines_all Known ls g h k
