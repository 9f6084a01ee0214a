-- What an ended search says is right. Assumes nothing.
use Rattle.std.proofs.Common.{◌≡◌, ℕ, ◌≤◌, true, false, eqb, leb, [], ◌∷◌, ℤ, pos, ◌-ℤ◌, ◌<ℤ◌, Some, None, Option, sym, refl, ap, ◌∙◌, subst, inl, inr, arith}
use lib.Signed.{lt_z}
use Rattle.std.specs.List.{AllByRecursion}
use Rattle.std.proofs.lemmas.Int.{ints, by_lt_z}
use Rattle.std.proofs.ByRecursion.{All-weaker}
use Rattle.std.proofs.lemmas.Bool.{cond-false, and_parts, and_from, le-leb, leb-true, cases_eq, ne_eqb}
use Rattle.rules.specs.declared.lines.Line.{Line}
use Rattle.rules.specs.Sheets.{Limits}
use Rattle.rules.specs.Choices.{capped}
use Rattle.rules.specs.Grounds.{Ground, Learnable, Part, Setting, SoundSetting, ledger, open_places, part_price, part_total, stands}
use Rattle.rules.specs.Search.{Ended, State, in_force}
use Rattle.rules.proofs.ByPosition.{Complete, LinesStandAt, PartCloses, PartKeeps, PartLeast, one_under}
use Rattle.rules.proofs.Joined.{joined_none}
use Rattle.rules.proofs.Firsts.{Holds, first_holds}
use Rattle.rules.proofs.Learning.{ledger_learnable, learnable_sound}
use Rattle.rules.proofs.Invariant.{Invariant, price_worse, BestSoFar}

module _ (S : Setting) where
  -- a line above all positions
  abbrev Top : Line → Type 0
  Top l = S.places ≤ l.level

  top_lines : (M : Limits) (g : Ground) → stands S M [] g ≡ true → AllByRecursion Top g
  top_lines M [] h = tt
  top_lines M (l ∷ g) h =
      let parts = and_parts _ _ h in
      let here : open_places S [] ≤ l.level = leb-true _ _ (and_parts (leb (open_places S []) l.level) _ parts.0).0 in
      (omega arith, top_lines M g parts.1)

  -- with all places open, a ground that stands stands at the limits
  at_limits : (M : Limits) (g : Ground) → stands S M [] g ≡ true → LinesStandAt S M g
  at_limits M [] h = tt
  at_limits M (l ∷ g) h =
      let parts = and_parts _ _ h in
      ((and_parts (leb (open_places S []) l.level) _ parts.0).1, at_limits M g parts.1)

  -- and a ground that stands at limits stands at every choice
  at_choice : (M : Limits) (c : Part) (g : Ground) → AllByRecursion Top g → LinesStandAt S M g → stands S M c g ≡ true
  at_choice M c [] top h = refl
  at_choice M c (l ∷ g) top h =
      let high : S.places ≤ l.level = top.0 in
      and_from _ _
      (and_from (leb (open_places S c) l.level) _ (le-leb _ _ (omega arith)) (subst (λ x. (S.joining l.row).worse x (M l.row) ≡ true) (sym (joined_none S l.row l.level l.constant c high)) h.0))
      (at_choice M c g top.1 h.1)

  -- limits that agree
  abbrev Same : Limits → Limits → Type 0
  Same L M = (r : ℕ) → L r ≡ M r

  same_stands : (L M : Limits) → Same L M → (g : Ground) → LinesStandAt S L g → LinesStandAt S M g
  same_stands L M e g h = All-weaker (λ l. (S.joining l.row).worse l.constant (L l.row) ≡ true) (λ l. (S.joining l.row).worse l.constant (M l.row) ≡ true) (λ l. subst (λ x. (S.joining l.row).worse l.constant x ≡ true) (e l.row)) g h

  same_cap : (L : Limits) (cap : ℤ) → cap ≡ L 0 → Same (capped L cap) L
  same_cap L cap e r =
      elim (cases_eq r 0) [
        | inl z ↦ subst (λ x. capped L cap x ≡ L x) (sym z) e
        | inr d ↦ cond-false (eqb r 0) cap (L r) (ne_eqb r 0 d)
      ]

  module _ (W : SoundSetting S) (L : Limits) where
    same_limits : (best : Option Part) (cap : ℤ) → BestSoFar S L best cap → Same (capped L cap) (one_under S L best)
    same_limits None cap h = same_cap L cap h
    same_limits (Some c) cap h = λ r. ap (λ x. capped L x r) h.2

    -- a choice that keeps the limits, and is cheap enough, keeps them with a lower cap
    keeps_capped : (cap : ℤ) (d : Part) → PartKeeps S L d → lt_z cap (part_price S d) ≡ false → PartKeeps S (capped L cap) d
    keeps_capped cap d k low row h =
        elim (cases_eq row 0) [
          | inl z ↦ subst (λ r. (S.joining r).worse (part_total S r d) (capped L cap r) ≡ false) (sym z) (price_worse S W L (part_price S d) cap ∙ low)
          | inr n ↦ subst (λ x. (S.joining row).worse (part_total S row d) x ≡ false) (sym (cond-false (eqb row 0) cap (L row) (ne_eqb row 0 n))) (k row h)
        ]

    -- no choice keeps the limits in force, so the best so far is the least
    least_of : (best : Option Part) (cap : ℤ) → BestSoFar S L best cap → ((d : Part) → Complete S d → PartKeeps S (capped L cap) d → ⊥) → PartLeast S L best
    least_of None cap h nothing =
        λ d ch k. nothing d ch (λ row r. subst (λ x. (S.joining row).worse (part_total S row d) x ≡ false) (sym (same_cap L cap h row)) (k row r))
    least_of (Some c) cap h nothing = (
      h.0,
      h.1,
      λ d ch k.
          by_lt_z (part_price S d) (part_price S c)
          (λ lt. absurd (nothing d ch (keeps_capped cap d k (lower cap (part_price S c) (part_price S d) h.2 lt))))
          (λ le. le),
    )
      where
        lower : (cap p q : ℤ) → cap ≡ p -ℤ pos 1 → q <ℤ p → lt_z cap q ≡ false
        lower cap p q e h = grind (arith, ints)

    module _ (σ : State) (i : Invariant S W L σ) (g : Ground) (e : Ended S L σ g) where
      first : Learnable S g × (stands S (in_force S L σ) [] g ≡ true)
      first = subst (Holds (λ x. Learnable S x × (stands S (in_force S L σ) [] x ≡ true))) e.1 (first_holds S (Learnable S) (in_force S L σ) [] (ledger S σ.learned) (ledger_learnable S σ.learned i.learnable))

      closed_off : (M : Limits) → LinesStandAt S M g → (c : Part) → Complete S c → PartKeeps S M c → ⊥
      closed_off M h c ch k = (learnable_sound S W first.0).rules_out M c ch (at_choice M c g (top_lines (in_force S L σ) g first.1) h) k

      pub ended_closes : PartCloses S L σ.best g
      ended_closes =
          (same_stands (in_force S L σ) (one_under S L σ.best) (same_limits σ.best σ.cap i.best) g (at_limits (in_force S L σ) g first.1), closed_off)

      pub ended_least : PartLeast S L σ.best
      ended_least = least_of σ.best σ.cap i.best (λ d. closed_off (in_force S L σ) (at_limits (in_force S L σ) g first.1) d)
