-- A learned ground: it rules out only what breaks a limit, and it stands where it is learned. Assumes nothing.
use Rattle.std.proofs.Common.{◌≡◌, ℕ, zero, suc, pred, ◌<◌, ◌≤◌, true, false, eqb, leb, List, [], ◌∷◌, map, length, is_some, Some, None, Option, sym, refl, ap, ◌∙◌, subst, inl, inr, arith}
use Rattle.std.specs.List.{AllByRecursion}
use Rattle.std.proofs.ByRecursion.{All-append}
use Rattle.std.proofs.lemmas.Bool.{cond-true, cond-false, cond_both, and_parts, and_from, eqb-true, eqb-false, le-leb, leb-true, cases_lt}
use Rattle.rules.specs.declared.lines.Line.{Line}
use Rattle.rules.specs.Sheets.{Limits}
use Rattle.rules.specs.Grounds.{Ground, Learnable, Part, Setting, SoundSetting, blocked, by_learning, first_standing, from_row, ground_in, joined_above, learn, learn_from, learned_up_to, ledger, line_stands, moved, of_row, open_places, stands, starting}
use Rattle.rules.proofs.ByPosition.{Complete, PartKeeps}
use Rattle.rules.proofs.Bools.{split, clash}
use Rattle.rules.proofs.Joined.{joined_off, joined_head, HasVersion, has_version}
use Rattle.rules.proofs.StandingLines.{Known, with_lines_gives, with_lines_stand, with_lines_known}
use Rattle.rules.proofs.Firsts.{Holds, first_holds}

module _ (S : Setting) where
  -- a ground whose rows are the setting's, and that stands, at whatever limits, only at choices that break them
  pub record Sound (g : Ground) : Type 0 where
    pub known : AllByRecursion (Known S) g
    pub rules_out : (M : Limits) (c : Part) → Complete S c → stands S M c g ≡ true → PartKeeps S M c → ⊥

  moved_known : (t : Part) (v : ℕ) (ls : List Line) → AllByRecursion (Known S) ls → AllByRecursion (Known S) (map (moved S t v) ls)
  moved_known t v [] h = tt
  moved_known t v (l ∷ ls) h =
      (cond_both (eqb (suc l.level) (open_places S t)) _ l (Known S) (λ _. h.0) (λ _. h.0), moved_known t v ls h.1)

  module _ (W : SoundSetting S) where
    -- a moved line stands at a choice only where the line itself does, if the choice has that version there
    moved_gives : (M : Limits) (c : Part) (t : Part) (p : ℕ) → length c ≡ S.places → open_places S t ≡ suc p → (hv : HasVersion S p c) → (l : Line) → Known S l → line_stands S M c (moved S t hv.version l) ≡ true → line_stands S M c l ≡ true
    moved_gives M c t p full e hv l k h =
        split (eqb (suc l.level) (open_places S t))
        (λ d.
        let q : l.level ≡ p = omega (arith, eqb-true _ _ d) in
        let v = hv.version in
        let h₀ : line_stands S M c (record { row = l.row; level = open_places S t; constant = (S.joining l.row).join l.constant (S.amount l.row (open_places S t) v) }) ≡ true = subst (λ x. line_stands S M c x ≡ true) (cond-true _ _ _ d) h in
        let h₁ = and_parts (leb (open_places S c) (open_places S t)) _ h₀ in
        let value : joined_above S l.row l.level l.constant c ≡ joined_above S l.row (open_places S t) ((S.joining l.row).join l.constant (S.amount l.row (open_places S t) v)) c
        = ap (λ x. joined_above S l.row x l.constant c) q
        ∙ hv.joined l.row (W.laws l.row k) l.constant
        ∙ ap (λ x. joined_above S l.row x ((S.joining l.row).join l.constant (S.amount l.row x v)) c) (sym e) in
        and_from (leb (open_places S c) l.level) _ (le-leb _ _ (omega arith)) (subst (λ x. (S.joining l.row).worse x (M l.row) ≡ true) (sym value) h₁.1))
        (λ d. subst (λ x. line_stands S M c x ≡ true) (cond-false _ _ _ d) h)

    all_moved_give : (M : Limits) (c : Part) (t : Part) (p : ℕ) → length c ≡ S.places → open_places S t ≡ suc p → (hv : HasVersion S p c) → (ls : List Line) → AllByRecursion (Known S) ls → stands S M c (map (moved S t hv.version) ls) ≡ true → stands S M c ls ≡ true
    all_moved_give M c t p full e hv [] k h = refl
    all_moved_give M c t p full e hv (l ∷ ls) k h =
        let parts = and_parts _ _ h in
        and_from _ _ (moved_gives M c t p full e hv l k.0 parts.0) (all_moved_give M c t p full e hv ls k.1 parts.1)

    -- a ground for each version of the place set next after t
    module _ (t : Part) (pick : ℕ → Ground) where
      up_to_known : (k : ℕ) → ((v : ℕ) → 1 ≤ v → v ≤ k → AllByRecursion (Known S) (pick v)) → AllByRecursion (Known S) (learned_up_to S t pick k)
      up_to_known zero h = tt
      up_to_known (suc k) h =
          with_lines_known S (map (moved S t (suc k)) (pick (suc k))) (learned_up_to S t pick k)
          (moved_known t (suc k) (pick (suc k)) (h (suc k) (omega arith) (omega arith)))
          (up_to_known k (λ v p q. h v p (omega arith)))

      -- where the learned ground stands, so do the moved lines of each version
      up_to_gives : (M : Limits) (c : Part) (k : ℕ) → ((v : ℕ) → 1 ≤ v → v ≤ k → AllByRecursion (Known S) (pick v)) → stands S M c (learned_up_to S t pick k) ≡ true → (v : ℕ) → 1 ≤ v → v ≤ k → stands S M c (map (moved S t v) (pick v)) ≡ true
      up_to_gives M c zero known h v a b = absurd (omega arith)
      up_to_gives M c (suc k) known h v a b =
          let parts = with_lines_gives S W M c (map (moved S t (suc k)) (pick (suc k))) (learned_up_to S t pick k) (moved_known t (suc k) (pick (suc k)) (known (suc k) (omega arith) (omega arith))) h in
          elim (cases_lt k v) [
            | inl p ↦
                let e : suc k ≡ v = omega arith in
                subst (λ x. stands S M c (map (moved S t x) (pick x)) ≡ true) e parts.0
            | inr p ↦ up_to_gives M c k (λ x i j. known x i (omega arith)) parts.1 v a p
          ]

      -- learned from grounds that rule out only what breaks a limit, a ground does so too
      pub learn_from_sound : length t < S.places → ((v : ℕ) → 1 ≤ v → v ≤ S.versions (open_places S t) → Sound (pick v)) → Sound (learn_from S t pick)
      unfolding learn_from
      learn_from_sound small all =
          record {
            known = up_to_known (S.versions (open_places S t)) (λ v p q. (all v p q).known);
            rules_out = λ M c ch h keeps.
                let p : ℕ = pred (open_places S t) in
                let e : open_places S t ≡ suc p = omega arith in
                let hv = has_version S p c (omega arith) ch.1 (omega (arith, ch.0)) in
                let there : hv.version ≤ S.versions (open_places S t) = subst (λ x. hv.version ≤ S.versions x) (sym e) hv.there in
                let got = up_to_gives M c (S.versions (open_places S t)) (λ v p q. (all v p q).known) h hv.version hv.counted there in
                let d : Sound (pick hv.version) = all hv.version hv.counted there in
                d.rules_out M c ch (all_moved_give M c t p ch.0 e hv (pick hv.version) d.known got) keeps;
          }

      -- each line that stands with a version set stands, moved, without it
      moved_stands : (L : Limits) (v : ℕ) (l : Line) → length t < S.places → Known S l → line_stands S L (v ∷ t) l ≡ true → line_stands S L t (moved S t v l) ≡ true
      moved_stands L v l small k h =
          let parts = and_parts (leb (open_places S (v ∷ t)) l.level) _ h in
          let low : open_places S (v ∷ t) ≤ l.level = leb-true _ _ parts.0 in
          let r = l.row in
          cond_both (eqb (suc l.level) (open_places S t)) _ l (λ x. line_stands S L t x ≡ true)
          (λ d.
          let e : open_places S t ≡ suc l.level = sym (eqb-true _ _ d) in
          let value : joined_above S r l.level l.constant (v ∷ t) ≡ joined_above S r (open_places S t) ((S.joining r).join l.constant (S.amount r (open_places S t) v)) t
          = joined_head S r (W.laws r k) l.level l.constant v t (omega arith) e
          ∙ ap (λ x. joined_above S r x ((S.joining r).join l.constant (S.amount r x v)) (v ∷ t)) (sym e)
          ∙ joined_off S r (open_places S t) _ v t (omega arith) in
          and_from (leb (open_places S t) (open_places S t)) _ (le-leb _ _ (omega arith)) (subst (λ x. (S.joining r).worse x (L r) ≡ true) value parts.1))
          (λ d.
          let far : open_places S t ≤ l.level = omega (arith, eqb-false _ _ d) in
          and_from (leb (open_places S t) l.level) _ (le-leb _ _ far) (subst (λ x. (S.joining r).worse x (L r) ≡ true) (joined_off S r l.level l.constant v t far) parts.1))

      all_moved_stand : (L : Limits) (v : ℕ) (ls : List Line) → length t < S.places → AllByRecursion (Known S) ls → stands S L (v ∷ t) ls ≡ true → stands S L t (map (moved S t v) ls) ≡ true
      all_moved_stand L v [] small k h = refl
      all_moved_stand L v (l ∷ ls) small k h =
          let parts = and_parts _ _ h in
          and_from _ _ (moved_stands L v l small k.0 parts.0) (all_moved_stand L v ls small k.1 parts.1)

      up_to_stands : (L : Limits) → length t < S.places → (k : ℕ) → ((v : ℕ) → 1 ≤ v → v ≤ k → AllByRecursion (Known S) (pick v) × (stands S L (v ∷ t) (pick v) ≡ true)) → stands S L t (learned_up_to S t pick k) ≡ true
      up_to_stands L small zero h = refl
      up_to_stands L small (suc k) h =
          let here = h (suc k) (omega arith) (omega arith) in
          with_lines_stand S W L t (map (moved S t (suc k)) (pick (suc k))) (learned_up_to S t pick k)
          (all_moved_stand L (suc k) (pick (suc k)) small here.0 here.1)
          (up_to_stands L small k (λ v p q. h v p (omega arith)))

      -- learned from grounds that stand with each version set, a ground stands there
      pub learn_from_stands : (L : Limits) → length t < S.places → ((v : ℕ) → 1 ≤ v → v ≤ S.versions (open_places S t) → AllByRecursion (Known S) (pick v) × (stands S L (v ∷ t) (pick v) ≡ true)) → stands S L t (learn_from S t pick) ≡ true
      unfolding learn_from
      learn_from_stands L small h = up_to_stands L small (S.versions (open_places S t)) h

  start_sound : (r : ℕ) → r ≤ S.last_row → Sound (of_row S r)
  start_sound r h =
      record {
        known = (h, tt);
        rules_out = λ M c ch st keeps. clash (and_parts (leb (open_places S c) 0) _ (and_parts _ _ st).0).1 (keeps r h);
      }

  starting_learnable : (r : ℕ) → r ≤ S.last_row → AllByRecursion (Learnable S) (starting S r)
  starting_learnable zero h = (from_row 0 h, tt)
  starting_learnable (suc r) h = All-append (Learnable S) (starting S r) _ (starting_learnable r (omega arith)) (from_row (suc r) h, tt)

  pub ledger_learnable : (learned : List Ground) → AllByRecursion (Learnable S) learned → AllByRecursion (Learnable S) (ledger S learned)
  ledger_learnable learned h = All-append (Learnable S) (starting S S.last_row) learned (starting_learnable S.last_row (omega arith)) h

  module _ (W : SoundSetting S) where
    -- a ground that can be learned rules out only what breaks a limit
    pub learnable_sound : {g : Ground} → Learnable S g → Sound g
    learnable_sound (from_row r h) = start_sound r h
    learnable_sound (by_learning t pick small all) = learn_from_sound W t pick small (λ v p q. learnable_sound (all v p q))

    -- the ground learned where no version is free
    module _ (L : Limits) (gs : List Ground) (learnable : AllByRecursion (Learnable S) gs) (t : Part) (small : length t < S.places) (all : (v : ℕ) → 1 ≤ v → v ≤ S.versions (open_places S t) → blocked S L gs (v ∷ t) ≡ true) where
      standing_in : (s : Part) (o : Option Ground) → is_some o ≡ true → Holds (λ g. Learnable S g × (stands S L s g ≡ true)) o → Learnable S (ground_in o) × (stands S L s (ground_in o) ≡ true)
      standing_in s None b h = clash {b = false} b refl
      standing_in s (Some g) b h = h

      at_version : (v : ℕ) → 1 ≤ v → v ≤ S.versions (open_places S t) → Learnable S (ground_in (first_standing S L gs (v ∷ t))) × (stands S L (v ∷ t) (ground_in (first_standing S L gs (v ∷ t))) ≡ true)
      at_version v p q = standing_in (v ∷ t) (first_standing S L gs (v ∷ t)) (all v p q) (first_holds S (Learnable S) L (v ∷ t) gs learnable)

      -- can be learned,
      pub learn_learnable : Learnable S (learn S L gs t)
      learn_learnable = by_learning t (λ v. ground_in (first_standing S L gs (v ∷ t))) small (λ v p q. (at_version v p q).0)

      -- and stands where it is learned
      pub learn_stands : stands S L t (learn S L gs t) ≡ true
      learn_stands =
          learn_from_stands W t (λ v. ground_in (first_standing S L gs (v ∷ t))) L small (λ v p q. let h = at_version v p q in ((learnable_sound h.0).known, h.1))
