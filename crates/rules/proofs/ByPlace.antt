-- What the rules say by position, said by place. Assumes nothing.
use Rattle.std.proofs.Common.{◌≡◌, ℕ, zero, suc, ◌-◌, ◌<◌, ◌≤◌, false, List, [], ◌∷◌, length, get_or, pos, ◌-ℤ◌, nat_abs, ◌≤ℤ◌, Some, None, Option, sym, refl, ap, ◌∙◌, subst, ap₂, inl, inr, arith, length-append}
use Rattle.std.specs.List.{AllByRecursion}
use Rattle.std.proofs.lemmas.List.{get_or_append_left, get_or-append_right}
use Rattle.std.proofs.ByRecursion.{All-weaker}
use Rattle.std.proofs.lemmas.Bool.{cases_lt}
use Rattle.rules.specs.declared.kinds.Kind.{Kind}
use Rattle.rules.specs.declared.kinds.Kind.TheVariants.{SumAtMost}
use Rattle.rules.specs.declared.sheets.Sheet.{Sheet}
use Rattle.rules.specs.Bounds.{greatest_amount}
use Rattle.rules.specs.Joinings.{Laws, kind_numbered}
use Rattle.rules.specs.Catalogues.{Meaning, SoundMeaning}
use Rattle.rules.specs.Sheets.{Limits, joining_found, joining_of, kind_of, last_row, order_of}
use Rattle.rules.specs.Choices.{BestKeeps, Cheapest, Choice, Closes, Keeps, NoChoice, StandsAt, capped, price, total, version}
use Rattle.rules.specs.Openings.{Faultless}
use Rattle.rules.specs.Grounds.{Ground, Part, Proper, Setting, SoundSetting, part_price, part_total}
use Rattle.rules.specs.Settings.{TrueGround, amount_in, best_by_place, by_place, by_position, closing_lines, place_at, setting, version_in, versions_in, versions_to}
use Rattle.rules.proofs.ByPosition.{AmountsNear, Complete, LinesStandAt, PartCloses, PartKeeps, PartLeast, one_under}
use Rattle.rules.proofs.JoiningLaws.{kind_laws}
use Rattle.rules.proofs.Inside.{versions_inside, amount_inside, joined_same}
use Rattle.rules.proofs.Learning.{Sound}
use Rattle.rules.proofs.CallHistories.{PartBest}
use Rattle.rules.proofs.Orders.{Offer, Chosen, choice_in_order, total_in_order, once_fine, find_map, map_same, versions_there, any_of}

found_laws : (o : Option Kind) → Laws (joining_found o)
found_laws None = kind_laws SumAtMost
found_laws (Some k) = kind_laws k

-- the versions by place are as many as there are places, each that of its place
versions_length : (order : List ℕ) (c : Part) (k : ℕ) → length (versions_to order c k) ≡ k
versions_length order c zero = refl
versions_length order c (suc k) = length-append (versions_to order c k) (version_in order c (suc k) ∷ []) ∙ omega (arith, versions_length order c k)

versions_at : (order : List ℕ) (c : Part) (k q : ℕ) → 1 ≤ q → q ≤ k → get_or (versions_to order c k) (q - 1) 0 ≡ version_in order c q
versions_at order c zero q a b = absurd (omega arith)
versions_at order c (suc k) q a b =
    elim (cases_lt (q - 1) k) [
      | inl h ↦ get_or_append_left (versions_to order c k) (version_in order c (suc k) ∷ []) 0 (q - 1) (omega (arith, versions_length order c k)) ∙ versions_at order c k q a (omega arith)
      | inr h ↦
          let e : q ≡ suc k = omega arith in
          let i : q - 1 - k ≡ 0 = omega arith in
          get_or-append_right (versions_to order c k) (version_in order c (suc k) ∷ []) k (q - 1) 0 (versions_length order c k) h
          ∙ ap₂ (λ j x. get_or (version_in order c x ∷ []) j 0) i (sym e)
    ]

-- a catalogue by place, as a search sees it
abbrev offer : Meaning → Sheet → Offer
offer m s = record { places = s.places; last_row = last_row s; joining = joining_of s; versions = versions_in m; amount = amount_in m }

module _ (m : Meaning) (w : SoundMeaning m) (s : Sheet) (f : Faultless m s) where
  abbrev S : Setting
  S = setting m s

  versions_agree : (q : ℕ) → 1 ≤ q → q ≤ s.places → versions_in m q ≡ m.versions q
  versions_agree q a b = versions_inside m q a (omega (arith, f.same_places))

  amount_agree : (row q v : ℕ) → row ≤ last_row s → 1 ≤ q → q ≤ s.places → 1 ≤ v → v ≤ m.versions q → amount_in m row q v ≡ m.amount row q v
  amount_agree row q v r a b x y = amount_inside m row q v (omega (arith, f.same_rows)) a (omega (arith, f.same_places)) x y

  chosen : (d : List ℕ) → Choice m s d → Chosen (offer m s) (version d)
  chosen d h q a b = let k = h.1 q a b in (k.0, subst (λ x. version d q ≤ x) (sym (versions_agree q a b)) k.1)

  pub choice_by_position : (d : List ℕ) → Choice m s d → Complete S (by_position s d)
  choice_by_position d h = choice_in_order (offer m s) (order_of s) f.order (version d) (chosen d h)

  pub total_agree : (row : ℕ) → row ≤ last_row s → (d : List ℕ) → Choice m s d → part_total S row (by_position s d) ≡ total m s row d
  total_agree row r d h =
      total_in_order (offer m s) (order_of s) f.order row (found_laws (kind_numbered (kind_of s row))) (version d)
      ∙ joined_same (joining_of s row) _ _ s.places (λ q a b. let k = h.1 q a b in amount_agree row q (version d q) r a b k.0 k.1)

  in_range : AllByRecursion (λ x. (1 ≤ x) × (x ≤ s.places)) (order_of s)
  in_range = (once_fine s.places (order_of s) f.order).0

  -- a choice by position is one by place
  pub there_and_back : (c : Part) → Complete S c → by_position s (by_place s c) ≡ c
  there_and_back c h =
      map_same (version (by_place s c)) (version_in (order_of s) c) (order_of s)
      (All-weaker (λ x. (1 ≤ x) × (x ≤ s.places)) (λ x. version (by_place s c) x ≡ version_in (order_of s) c x) (λ x p. versions_at (order_of s) c s.places x p.0 p.1) (order_of s) in_range)
      ∙ find_map (order_of s) c (h.0 ∙ sym f.order.0) (once_fine s.places (order_of s) f.order).1

  pub choice_by_place : (c : Part) → Complete S c → Choice m s (by_place s c)
  choice_by_place c h =
      let there = versions_there (offer m s) (order_of s) f.order (version (by_place s c)) [] (order_of s) refl (subst (Proper S) (sym (there_and_back c h)) h.1) in (
        versions_length (order_of s) c s.places,
        λ q a b.
            let k = any_of (offer m s) (order_of s) f.order (λ x. (1 ≤ version (by_place s c) x) × (version (by_place s c) x ≤ versions_in m x)) (order_of s) q there (f.order.1 q a b) in
            (k.0, subst (λ x. version (by_place s c) q ≤ x) (versions_agree q a b) k.1),
      )

  pub total_by_place : (row : ℕ) → row ≤ last_row s → (c : Part) → Complete S c → total m s row (by_place s c) ≡ part_total S row c
  total_by_place row r c h = sym (total_agree row r (by_place s c) (choice_by_place c h)) ∙ ap (part_total S row) (there_and_back c h)

  keeps_by_position : (L : Limits) (d : List ℕ) → Choice m s d → Keeps m s L d → PartKeeps S L (by_position s d)
  keeps_by_position L d h k row r = subst (λ x. (joining_of s row).worse x (L row) ≡ false) (sym (total_agree row r d h)) (k row r)

  keeps_by_place : (L : Limits) (c : Part) → Complete S c → PartKeeps S L c → Keeps m s L (by_place s c)
  keeps_by_place L c h k row r = subst (λ x. (joining_of s row).worse x (L row) ≡ false) (sym (total_by_place row r c h)) (k row r)

  pub none_by_place : (L : Limits) → PartLeast S L None → NoChoice m s L
  none_by_place L h d k e = h (by_position s d) (choice_by_position d k) (keeps_by_position L d k e)

  pub cheapest_by_place : (L : Limits) (c : Part) → PartLeast S L (Some c) → Cheapest m s L (by_place s c)
  cheapest_by_place L c h = (
    choice_by_place c h.0,
    keeps_by_place L c h.0 h.1,
    λ d k e.
        let lower : part_price S c ≤ℤ part_price S (by_position s d) = h.2 (by_position s d) (choice_by_position d k) (keeps_by_position L d k e) in
        subst (λ x. price m s (by_place s c) ≤ℤ x) (total_agree 0 (omega arith) d k)
        (subst (λ x. x ≤ℤ part_price S (by_position s d)) (sym (total_by_place 0 (omega arith) c h.0)) lower),
  )

  stands_lines : (M : Limits) (g : Ground) → LinesStandAt S M g → StandsAt m s M (closing_lines g)
  stands_lines M [] h = tt
  stands_lines M (l ∷ g) h = (h.0, stands_lines M g h.1)

  lines_stand : (M : Limits) (g : Ground) → StandsAt m s M (closing_lines g) → LinesStandAt S M g
  lines_stand M [] h = tt
  lines_stand M (l ∷ g) h = (h.0, lines_stand M g h.1)

  pub closes_by_place : (L : Limits) (best : Option Part) (g : Ground) → PartCloses S L best g → Closes m s (one_under S L best) (closing_lines g)
  closes_by_place L best g k =
      (stands_lines _ g k.0, λ M st d c e. k.1 M (lines_stand M g st) (by_position s d) (choice_by_position d c) (keeps_by_position M d c e))

  pub closes_under : (L : Limits) (c : Part) (g : Ground) → Complete S c → PartCloses S L (Some c) g → Closes m s (capped L (price m s (by_place s c) -ℤ pos 1)) (closing_lines g)
  closes_under L c g h k =
      subst (λ x. Closes m s (capped L (x -ℤ pos 1)) (closing_lines g)) (sym (total_by_place 0 (omega arith) c h)) (closes_by_place L (Some c) g k)

  -- a position has the versions of its place
  place_there : (p : ℕ) → 1 ≤ p → p ≤ s.places → (1 ≤ place_at (order_of s) p) × (place_at (order_of s) p ≤ s.places)
  place_there p a b = all_at (order_of s) (p - 1) (omega (arith, f.order.0)) in_range
    where
      all_at : (xs : List ℕ) (i : ℕ) → i < length xs → AllByRecursion (λ x. (1 ≤ x) × (x ≤ s.places)) xs → (1 ≤ get_or xs i 0) × (get_or xs i 0 ≤ s.places)
      all_at [] i h a = absurd (omega arith)
      all_at (x ∷ xs) zero h a = a.0
      all_at (x ∷ xs) (suc i) h a = all_at xs i (omega arith) a.1

  pub setting_versions : (p : ℕ) → 1 ≤ p → p ≤ s.places → S.versions p ≡ m.versions (place_at (order_of s) p)
  setting_versions p a b = let k = place_there p a b in versions_agree (place_at (order_of s) p) k.0 k.1

  pub sound_setting : SoundSetting S
  sound_setting =
      record {
        some_place = f.some_place;
        some_version = λ p a b.
            let k = place_there p a b in
            subst (λ x. 1 ≤ x) (sym (setting_versions p a b)) (w.some_version (place_at (order_of s) p) k.0 (omega (arith, k.1, f.same_places)));
        laws = λ r h. found_laws (kind_numbered (kind_of s r));
        price_adds = refl;
      }

  pub amounts_near : AmountsNear S greatest_amount
  amounts_near row p v r a b x y =
      let k = place_there p a b in
      let there : v ≤ m.versions (place_at (order_of s) p) = subst (λ z. v ≤ z) (setting_versions p a b) y in
      subst (λ z. nat_abs z ≤ greatest_amount) (sym (amount_agree row (place_at (order_of s) p) v r k.0 k.1 x there)) (f.amounts row (place_at (order_of s) p) v r k.0 k.1 x there)

  -- a ground that rules out only what breaks a limit is true
  pub true_by_place : (g : Ground) → Sound S g → TrueGround m s g
  true_by_place g h M d c st k = h.rules_out M (by_position s d) (choice_by_position d c) st (keeps_by_position M d c k)

  pub best_by_place_keeps : (L : Limits) (best : Option Part) → PartBest S L best → BestKeeps m s L (best_by_place s best)
  best_by_place_keeps L None h = tt
  best_by_place_keeps L (Some c) h = (choice_by_place c h.0, keeps_by_place L c h.0 h.1)
