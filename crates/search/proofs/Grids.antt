-- What the tables of a grid hold. Assumes nothing.
use Rattle.std.proofs.Common.{◌≡◌, ℕ, zero, suc, ◌-◌, ◌<◌, ◌≤◌, true, leb, List, length, get_or, ℤ, pos, nat_abs, Some, None, Option, sym, refl, ap, ◌∙◌, subst, inl, inr, arith}
use mathlib.Core.Path.{fun_ext}
use Rattle.std.specs.Option.{unwrap_or}
use Rattle.std.proofs.lemmas.List.{get_or_past}
use Rattle.std.proofs.lemmas.List.FromFn.{length-map-range_with_len, get_or-map-range_with_len}
use Rattle.std.proofs.lemmas.Bool.{cond_both, and_parts, leb-true, ltb-true, cases_lt, and_from, le-leb, both_ways}
use Rattle.rules.specs.Bounds.{most_places, most_versions, most_rows, greatest_row, greatest_amount}
use Rattle.rules.specs.declared.kinds.Kind.TheVariants.{SumAtMost}
use Rattle.rules.specs.declared.kinds.Kind.{Kind}
use Rattle.rules.specs.declared.sheets.Row.{Row}
use Rattle.rules.specs.declared.sheets.Sheet.{Sheet}
use Rattle.rules.specs.Joinings.{Joining, joining, kind_numbered}
use Rattle.rules.specs.Catalogues.{Meaning, SoundMeaning, has_amount, has_place}
use Rattle.rules.specs.Sheets.{blank_row, joining_found, joining_of, kind_of, order_of}
use Rattle.rules.specs.Openings.{Faultless}
use Rattle.rules.specs.Grounds.{Setting}
use Rattle.rules.specs.Settings.{versions_in, amount_in, place_at}
use Rattle.search.specs.Tables.{no_amounts, no_position, count_at, slot, has_version, amount_at, Counted, Long, Wide, Near}
use Rattle.search.specs.Made.{kind_at, kinds_in, amounts_in, position_in, positions_in}
use Rattle.search.specs.declared.position.Amounts.{Amounts}
use Rattle.search.specs.declared.position.Position.{Position}

-- what the tables keep
pub record Good (ps : List Position) : Type 0 where
  pub whole : length ps ≡ most_places
  pub counted : Counted ps
  pub long : Long ps
  pub wide : Wide ps
  pub near : Near ps

-- a row, a place and a version of which a meaning has an amount
record There (m : Meaning) (row q v : ℕ) : Type 0 where
  in_rows : row < m.rows
  from : 1 ≤ q
  to : q ≤ m.places
  some : 1 ≤ v
  few : v ≤ m.versions q

there : (m : Meaning) (row q v : ℕ) → has_amount m row q v ≡ true → There m row q v
there m row q v e =
    let a = and_parts _ _ e in
    let b = and_parts (has_place m q) _ a.1 in
    let c = and_parts (leb 1 q) _ b.0 in
    let d = and_parts (leb 1 v) _ b.1 in
    record { in_rows = ltb-true _ _ a.0; from = leb-true _ _ c.0; to = leb-true _ _ c.1; some = leb-true _ _ d.0; few = leb-true _ _ d.1 }

no_amount : (m : Meaning) (row q v : ℕ) → (There m row q v → ⊥) → pos 0 ≡ amount_in m row q v
no_amount m row q v none =
    cond_both (has_amount m row q v) (m.amount row q v) (pos 0) (λ z. pos 0 ≡ z) (λ e. absurd (none (there m row q v e))) (λ e. refl)

module _ (m : Meaning) (w : SoundMeaning m) (s : Sheet) (f : Faultless m s) where
  pub amount_near : (row q v : ℕ) → nat_abs (amount_in m row q v) ≤ greatest_amount
  amount_near row q v =
      cond_both (has_amount m row q v) (m.amount row q v) (pos 0) (λ z. nat_abs z ≤ greatest_amount)
      (λ e. let t = there m row q v e in f.amounts row q v (omega (arith, t.in_rows, f.same_rows)) t.from (omega (arith, t.to, f.same_places)) t.some t.few)
      (λ e. omega arith)

  few_versions : (q : ℕ) → versions_in m q ≤ most_versions
  few_versions q =
      cond_both (has_place m q) (m.versions q) 0 (λ n. n ≤ most_versions)
      (λ e. let t = and_parts (leb 1 q) _ e in w.few_versions q (leb-true _ _ t.0) (leb-true _ _ t.1))
      (λ e. omega arith)

  -- the place at an index of the order, and 0 past it
  place : ℕ → ℕ
  place i = get_or (order_of s) i 0

  abbrev table : List Position
  table = positions_in m s

  whole : length table ≡ most_places
  unfolding positions_in
  whole = length-map-range_with_len (λ i. position_in m (place_at (order_of s) (suc i))) 0 most_places

  position_at : (i : ℕ) → i < most_places → get_or table i no_position ≡ position_in m (place i)
  unfolding positions_in place
  position_at i low =
      let at : suc i - 1 ≡ i = omega arith in
      get_or-map-range_with_len (λ i. position_in m (place_at (order_of s) (suc i))) 0 most_places i i no_position low (omega arith)
      ∙ ap (λ k. position_in m (get_or (order_of s) k 0)) at

  all_versions : (q : ℕ) → length (position_in m q).versions ≡ most_versions
  unfolding position_in
  all_versions q = length-map-range_with_len (λ j. amounts_in m q (suc j)) 0 most_versions

  count_is : (q : ℕ) → (position_in m q).count ≡ versions_in m q
  unfolding position_in
  count_is q = refl

  version_at : (q j : ℕ) → j < most_versions → get_or (position_in m q).versions j no_amounts ≡ amounts_in m q (suc j)
  unfolding position_in
  version_at q j few = get_or-map-range_with_len (λ j. amounts_in m q (suc j)) 0 most_versions j j no_amounts few (omega arith)

  all_rows : (q v : ℕ) → length (amounts_in m q v).rows ≡ most_rows
  unfolding amounts_in
  all_rows q v = length-map-range_with_len (λ r. amount_in m r q v) 0 most_rows

  row_at : (q v r : ℕ) → get_or (amounts_in m q v).rows r (pos 0) ≡ amount_in m r q v
  unfolding amounts_in
  row_at q v r = elim (cases_lt r most_rows) [
    | inl low ↦ get_or-map-range_with_len (λ r. amount_in m r q v) 0 most_rows r r (pos 0) low (omega arith)
    | inr past ↦
        get_or_past (amounts_in m q v).rows r (pos 0) (omega (arith, all_rows q v))
        ∙ no_amount m r q v (λ t. omega (arith, t.in_rows, w.few_rows))
  ]

  -- past the positions there may be there is no place
  no_place : (i : ℕ) → most_places ≤ i → place i ≡ 0
  unfolding place
  no_place i past = get_or_past (order_of s) i 0 (omega (arith, f.order.0, f.few_places))

  past_table : (i : ℕ) → most_places ≤ i → get_or table i no_position ≡ no_position
  past_table i past = get_or_past table i no_position (omega (arith, whole))

  slot_is : (i j r : ℕ) → j < most_versions → slot table i j r ≡ amount_in m r (place i) (suc j)
  slot_is i j r few = elim (cases_lt i most_places) [
    | inl low ↦
        ap (λ (p : Position). get_or (get_or p.versions j no_amounts).rows r (pos 0)) (position_at i low)
        ∙ ap (λ (a : Amounts). get_or a.rows r (pos 0)) (version_at (place i) j few)
        ∙ row_at (place i) (suc j) r
    | inr past ↦
        ap (λ (p : Position). get_or (get_or p.versions j no_amounts).rows r (pos 0)) (past_table i past)
        ∙ no_amount m r (place i) (suc j) (λ t. omega (arith, t.from, no_place i past))
  ]

  no_slot : (i j r : ℕ) → most_versions ≤ j → slot table i j r ≡ pos 0
  no_slot i j r past = elim (cases_lt i most_places) [
    | inl low ↦
        ap (λ (p : Position). get_or (get_or p.versions j no_amounts).rows r (pos 0)) (position_at i low)
        ∙ ap (λ (a : Amounts). get_or a.rows r (pos 0)) (get_or_past (position_in m (place i)).versions j no_amounts (omega (arith, all_versions (place i))))
    | inr beyond ↦ ap (λ (p : Position). get_or (get_or p.versions j no_amounts).rows r (pos 0)) (past_table i beyond)
  ]

  slot_near : (i j r : ℕ) → nat_abs (slot table i j r) ≤ greatest_amount
  slot_near i j r = elim (cases_lt j most_versions) [
    | inl few ↦ subst (λ z. nat_abs z ≤ greatest_amount) (sym (slot_is i j r few)) (amount_near r (place i) (suc j))
    | inr past ↦ subst (λ z. nat_abs z ≤ greatest_amount) (sym (no_slot i j r past)) (omega arith)
  ]

  pub good : Good table
  good =
      record {
        whole = whole;
        counted = λ i low. let at = ap (λ (p : Position). p.count) (position_at i low) ∙ count_is (place i) in omega (arith, at, few_versions (place i));
        long = λ i low. ap (λ (p : Position). length p.versions) (position_at i low) ∙ all_versions (place i);
        wide = λ i j t.
            ap (λ (p : Position). length (get_or p.versions j no_amounts).rows) (position_at i t.0)
            ∙ ap (λ (a : Amounts). length a.rows) (version_at (place i) j t.1)
            ∙ all_rows (place i) (suc j);
        near = slot_near;
      }

  -- by position the table has the counts and amounts that the rules see
  pub counts : count_at table ≡ (λ p. versions_in m (place_at (order_of s) p))
  unfolding place
  counts = fun_ext (λ p. elim (cases_lt (p - 1) most_places) [
    | inl low ↦ ap (λ (p : Position). p.count) (position_at (p - 1) low) ∙ count_is (place (p - 1))
    | inr past ↦ ap (λ (p : Position). p.count) (past_table (p - 1) past) ∙ ap (versions_in m) (sym (no_place (p - 1) past))
  ])

  amount_is : (r p v : ℕ) → amount_at table r p v ≡ amount_in m r (place_at (order_of s) p) v
  unfolding place
  amount_is r p v =
      cond_both (has_version v) (slot table (p - 1) (v - 1) r) (pos 0) (λ z. z ≡ amount_in m r (place (p - 1)) v)
      (λ e.
      let t = and_parts (leb 1 v) _ e in
      let some = leb-true 1 v t.0 in
      let few = leb-true v most_versions t.1 in
      let at : suc (v - 1) ≡ v = omega arith in
      slot_is (p - 1) (v - 1) r (omega arith) ∙ ap (amount_in m r (place (p - 1))) at)
      (λ e. no_amount m r (place (p - 1)) v (λ t. both_ways (has_version v) e (and_from _ _ (le-leb 1 v t.some) (le-leb v most_versions (omega (arith, t.few, w.few_versions (place (p - 1)) t.from t.to))))))

  pub amounts : amount_at table ≡ (λ r p v. amount_in m r (place_at (order_of s) p) v)
  amounts = fun_ext (λ r. fun_ext (λ p. fun_ext (λ v. amount_is r p v)))

-- the kinds of a table give the joinings of the sheet
found_joining : (o : Option Kind) → joining (unwrap_or o SumAtMost) ≡ joining_found o
found_joining None = refl
found_joining (Some k) = refl

module _ (s : Sheet) (long : length s.rows ≡ greatest_row) where
  past_rows : (r : ℕ) → most_rows ≤ r → SumAtMost ≡ kind_at s.rows r
  past_rows zero past = absurd (omega arith)
  past_rows (suc r) past = ap (λ (w : Row). unwrap_or (kind_numbered w.kind) SumAtMost) (sym (get_or_past s.rows r blank_row (omega arith)))

  kind_is : (r : ℕ) → get_or (kinds_in s.rows) r SumAtMost ≡ kind_at s.rows r
  unfolding kinds_in
  kind_is r = elim (cases_lt r most_rows) [
    | inl low ↦ get_or-map-range_with_len (kind_at s.rows) 0 most_rows r r SumAtMost low (omega arith)
    | inr past ↦ get_or_past (kinds_in s.rows) r SumAtMost (omega (arith, length-map-range_with_len (kind_at s.rows) 0 most_rows)) ∙ past_rows r past
  ]

  pub priced : get_or (kinds_in s.rows) 0 SumAtMost ≡ SumAtMost
  priced = kind_is 0

  joining_is : (r : ℕ) → joining (kind_at s.rows r) ≡ joining_of s r
  joining_is zero = refl
  joining_is (suc r) = found_joining (kind_numbered (kind_of s (suc r)))

  pub joinings : ◌≡◌ {A = ℕ → Joining} (λ r. joining (get_or (kinds_in s.rows) r SumAtMost)) (joining_of s)
  joinings = fun_ext (λ r. ap joining (kind_is r) ∙ joining_is r)

-- settings with the same parts
pub same_setting : {n m n' m' : ℕ} {j j' : ℕ → Joining} {k k' : ℕ → ℕ} {a a' : ℕ → ℕ → ℕ → ℤ} → n ≡ n' → m ≡ m' → j ≡ j' → k ≡ k' → a ≡ a' → ◌≡◌ {A = Setting} (record { places = n; last_row = m; joining = j; versions = k; amount = a }) (record { places = n'; last_row = m'; joining = j'; versions = k'; amount = a' })
same_setting p q r s t = cc
