-- The fault that an opening finds is that of the first test that fails. Assumes nothing.
use Rattle.std.proofs.Common.{◌≡◌, ℕ, zero, suc, ◌-◌, ◌<◌, ◌≤◌, ◌⊎◌, Bool, true, false, eqb, leb, ltb, ◌&&◌, List, [], ◌∷◌, ◌++◌, length, nat_abs, is_some, Some, None, Option, sym, refl, ap, ◌∙◌, subst, inl, inr, append_assoc, arith}
use Rattle.std.specs.Bool.{Decides}
use Rattle.std.specs.List.{AllByRecursion}
use Rattle.std.proofs.lemmas.Bool.Decides.{Decides-eqb, not_from_Decides}
use Rattle.std.proofs.lemmas.Bool.{and_parts, and_from, leb-true, le-leb, lt-ltb, ltb-true, cases_lt, cond-true, cond-false}
use Rattle.rules.specs.declared.refusals.Fault.{Fault}
use Rattle.rules.specs.declared.refusals.Refusal.TheVariants.{AmountBeyond, CountOutside, CountsDiffer, LimitBeyond, OrderNotOnce, UnknownKind}
use Rattle.rules.specs.declared.sheets.Sheet.{Sheet}
use Rattle.rules.specs.Bounds.{greatest_amount, greatest_limit, greatest_row, most_places}
use Rattle.rules.specs.Joinings.{kind_numbered}
use Rattle.rules.specs.Catalogues.{Meaning, has_amount, has_place}
use Rattle.rules.specs.Sheets.{EachOnce, kind_of, last_row, limit_of, order_of}
use Rattle.rules.specs.Refusals.{fault, fault_at}
use Rattle.rules.specs.Openings.{AmountWithin, ComesBefore, CountsWithin, FaultFound, KnownKind, LimitWithin, RowsPass, SameCounts, amount_beyond, cap_beyond, contains_all, counts_differ, counts_outside, counts_same, each_to, first_fault, place_tests, version_tests, order_test, kind_known, kind_unknown, limit_beyond, limit_test, opening, order_wrong, row_tests, test}
use Rattle.rules.specs.Theorems.{OpeningLaw}
use Rattle.rules.proofs.Bools.{split, clash}
use Rattle.rules.proofs.TestLists.{Passed, all_contained, contained_all, each_all, each_at, passed_test, test_passed}
use Rattle.rules.proofs.KindNumbers.{kind_there, there_kind}
use Rattle.rules.proofs.OpeningTests.{none_faultless, faultless_none}

nothing_first : (f : Fault) → first_fault [] ≡ Some f → ⊥
nothing_first f h = absurd (cc)

-- the first fault of a test and of those after it
pub first_test : (b : Bool) (e f : Fault) (ts : List (Option Fault)) → first_fault (test b e ∷ ts) ≡ Some f → ((b ≡ false) × (e ≡ f)) ⊎ ((b ≡ true) × (first_fault ts ≡ Some f))
first_test true e f ts h = inr (refl, h)
first_test false e f ts h = let same : e ≡ f = cc in inl (refl, same)

fails : (b : Bool) (e : Fault) (ts : List (Option Fault)) → b ≡ false → first_fault (test b e ∷ ts) ≡ Some e
fails b e ts h = ap (λ t. first_fault (t ∷ ts)) (cond-false b None (Some e) h)

passes : (b : Bool) (e : Fault) (ts : List (Option Fault)) {o : Option Fault} → b ≡ true → first_fault ts ≡ o → first_fault (test b e ∷ ts) ≡ o
passes b e ts h k = ap (λ t. first_fault (t ∷ ts)) (cond-true b None (Some e) h) ∙ k

-- of two lists of tests, one after the other
first_append : (xs ys : List (Option Fault)) (f : Fault) → first_fault (xs ++ ys) ≡ Some f → (first_fault xs ≡ Some f) ⊎ (AllByRecursion Passed xs × (first_fault ys ≡ Some f))
first_append [] ys f h = inr (tt, h)
first_append (Some e ∷ xs) ys f h = inl h
first_append (None ∷ xs) ys f h = elim (first_append xs ys f h) [ inl k ↦ inl k | inr k ↦ inr ((refl, k.0), k.1) ]

fails_left : (xs ys : List (Option Fault)) (f : Fault) → first_fault xs ≡ Some f → first_fault (xs ++ ys) ≡ Some f
fails_left [] ys f h = absurd (cc)
fails_left (Some e ∷ xs) ys f h = h
fails_left (None ∷ xs) ys f h = fails_left xs ys f h

fails_right : (xs ys : List (Option Fault)) {o : Option Fault} → AllByRecursion Passed xs → first_fault ys ≡ o → first_fault (xs ++ ys) ≡ o
fails_right [] ys h k = k
fails_right (Some e ∷ xs) ys h k = absurd (cc (h.0))
fails_right (None ∷ xs) ys h k = fails_right xs ys h.1 k

-- of the tests of each number from 1 on
first_each : (g : ℕ → List (Option Fault)) (n : ℕ) (f : Fault) → first_fault (each_to g n) ≡ Some f → (j : ℕ) × (j < n) × AllByRecursion Passed (each_to g j) × (first_fault (g (suc j)) ≡ Some f)
first_each g zero f h = absurd (cc)
first_each g (suc n) f h =
    elim (first_append (each_to g n) (g (suc n)) f h) [
      | inl k ↦ let r = first_each g n f k in (r.0, omega (arith, r.1), r.2, r.3)
      | inr k ↦ (n, omega arith, k.0, k.1)
    ]

fails_each : (g : ℕ → List (Option Fault)) (n j : ℕ) (f : Fault) → j < n → AllByRecursion Passed (each_to g j) → first_fault (g (suc j)) ≡ Some f → first_fault (each_to g n) ≡ Some f
fails_each g zero j f l h k = absurd (omega arith)
fails_each g (suc n) j f l h k =
    elim (cases_lt j n) [
      | inl p ↦ fails_left (each_to g n) (g (suc n)) f (fails_each g n j f p h k)
      | inr p ↦
          let e : j ≡ n = omega arith in
          subst (λ i. first_fault (each_to g i ++ g (suc i)) ≡ Some f) e (fails_right (each_to g j) (g (suc j)) h k)
    ]

fails_of : {P : Type 0} (b : Bool) → Decides b P → (P → ⊥) → b ≡ false
fails_of b d n = split b (λ e. absurd (n (d.0 e))) (λ e. e)

module _ (s : Sheet) where
  abbrev row_tests_at : ℕ → List (Option Fault)
  row_tests_at r = row_tests (kind_of s r) (limit_of s r)

  -- what the tests of a sheet are true of
  abbrev counts_kept : Bool
  counts_kept = leb 1 s.places && (leb s.places most_places && leb (last_row s) greatest_row)

  counts_decided : Decides counts_kept (CountsWithin s)
  counts_decided = (
    λ e. let a = and_parts _ _ e in let b = and_parts _ _ a.1 in (leb-true _ _ a.0, leb-true _ _ b.0, leb-true _ _ b.1),
    λ h. and_from _ _ (le-leb _ _ h.0) (and_from _ _ (le-leb _ _ h.1) (le-leb _ _ h.2)),
  )

  limit_decided : (r : ℕ) → Decides (leb (nat_abs (limit_of s r)) greatest_limit) (LimitWithin s r)
  limit_decided r = (leb-true _ _, le-leb _ _)

  kind_decided : (r : ℕ) → Decides (kind_known s r) (KnownKind s r)
  kind_decided r = (kind_there (kind_of s r), λ k. subst (λ n. is_some (kind_numbered n) ≡ true) k.1 (there_kind k.0))

  order_decided : Decides (eqb (length (order_of s)) s.places && contains_all s.places (order_of s)) (EachOnce s.places (order_of s))
  order_decided = (
    λ e. let a = and_parts (eqb (length (order_of s)) s.places) (contains_all s.places (order_of s)) e in ((Decides-eqb _ _).0 a.0, all_contained s.places (order_of s) a.1),
    λ h. and_from _ _ ((Decides-eqb _ _).1 h.0) (contained_all s.places (order_of s) h.1),
  )

  rows_pass : (j : ℕ) → CountsWithin s → LimitWithin s 0 → AllByRecursion Passed (each_to row_tests_at j) → RowsPass s j
  rows_pass j c k h =
      record {
        counts = c;
        cap = k;
        rows = λ r a b.
            let x = each_at Passed row_tests_at j h r a b in
            ((kind_decided r).0 (test_passed (kind_known s r) (fault UnknownKind) x.0), (limit_decided r).0 (test_passed _ (fault LimitBeyond) x.1.0));
      }

  pass_rows : (j : ℕ) → RowsPass s j → AllByRecursion Passed (each_to row_tests_at j)
  pass_rows j p =
      each_all Passed row_tests_at j (λ r a b. let x = p.rows r a b in (passed_test _ (fault UnknownKind) ((kind_decided r).1 x.0), (passed_test _ (fault LimitBeyond) ((limit_decided r).1 x.1), tt)))

module _ (m : Meaning) where
  abbrev at_version : ℕ → ℕ → ℕ → List (Option Fault)
  at_version q v k = test (leb (nat_abs (m.amount (k - 1) q v)) greatest_amount) (fault_at AmountBeyond q v (k - 1)) ∷ []

  abbrev at_place : ℕ → List (Option Fault)
  at_place q = place_tests m q

  there : (row q v : ℕ) → row < m.rows → 1 ≤ q → q ≤ m.places → 1 ≤ v → v ≤ m.versions q → has_amount m row q v ≡ true
  there row q v a b c d e =
      and_from _ _ (lt-ltb row m.rows a) (and_from _ _ (and_from _ _ (le-leb 1 q b) (le-leb q m.places c)) (and_from _ _ (le-leb 1 v d) (le-leb v (m.versions q) e)))

  record There (row q v : ℕ) : Type 0 where
    pub few : row < m.rows
    pub placed : (1 ≤ q) × (q ≤ m.places)
    pub known : (1 ≤ v) × (v ≤ m.versions q)

  there_is : (row q v : ℕ) → has_amount m row q v ≡ true → There row q v
  there_is row q v h =
      let a = and_parts (ltb row m.rows) (has_place m q && (leb 1 v && leb v (m.versions q))) h in
      let b = and_parts (has_place m q) (leb 1 v && leb v (m.versions q)) a.1 in
      let c = and_parts (leb 1 q) (leb q m.places) b.0 in
      let d = and_parts (leb 1 v) (leb v (m.versions q)) b.1 in
      record { few = ltb-true _ _ a.0; placed = (leb-true _ _ c.0, leb-true _ _ c.1); known = (leb-true _ _ d.0, leb-true _ _ d.1) }

  amount_passed : (q v n row : ℕ) → row < n → AllByRecursion Passed (each_to (at_version q v) n) → AmountWithin m row q v
  amount_passed q v n row l h =
      let e : suc row - 1 ≡ row = omega arith in
      let x = each_at Passed (at_version q v) n h (suc row) (omega arith) l in
      subst (λ r. AmountWithin m r q v) e (leb-true _ _ (test_passed (leb (nat_abs (m.amount (suc row - 1) q v)) greatest_amount) (fault_at AmountBeyond q v (suc row - 1)) x.0))

  passed_amounts : (q v n : ℕ) → ((row : ℕ) → row < n → AmountWithin m row q v) → AllByRecursion Passed (each_to (at_version q v) n)
  passed_amounts q v n h =
      each_all Passed (at_version q v) n (λ k a b. (passed_test _ (fault_at AmountBeyond q v (k - 1)) (le-leb _ _ (h (k - 1) (omega arith))), tt))

  -- the amounts that pass before one that fails
  before_first : (a b c : ℕ) → AllByRecursion Passed (each_to at_place a) → AllByRecursion Passed (each_to (version_tests m (suc a)) b) → AllByRecursion Passed (each_to (at_version (suc a) (suc b)) c) → (p u k : ℕ) → There k p u → ComesBefore p u k (suc a) (suc b) c → AmountWithin m k p u
  before_first a b c h i j p u k t (inl l) =
      let x : AllByRecursion Passed (at_place p) = each_at Passed at_place a h p t.placed.0 (omega (arith, l)) in
      amount_passed p u m.rows k t.few (each_at Passed (version_tests m p) (m.versions p) x u t.known.0 t.known.1)
  before_first a b c h i j p u k t (inr (e, inl l)) =
      let x : AllByRecursion Passed (version_tests m (suc a) u) = each_at Passed (version_tests m (suc a)) b i u t.known.0 (omega (arith, l)) in
      subst (λ z. AmountWithin m k z u) (sym e) (amount_passed (suc a) u m.rows k t.few x)
  before_first a b c h i j p u k t (inr (e, inr (d, l))) =
      subst (λ z. AmountWithin m k z u) (sym e) (subst (λ z. AmountWithin m k (suc a) z) (sym d) (amount_passed (suc a) (suc b) c k l j))

  record AmountFound (f : Fault) : Type 0 where
    pub place : ℕ
    pub version : ℕ
    pub row : ℕ
    pub known : has_amount m row place version ≡ true
    pub before : (p u k : ℕ) → has_amount m k p u ≡ true → ComesBefore p u k place version row → AmountWithin m k p u
    pub beyond : AmountWithin m row place version → ⊥
    pub told : fault_at AmountBeyond place version row ≡ f

  amount_found : (f : Fault) → first_fault (each_to at_place m.places) ≡ Some f → AmountFound f
  amount_found f h =
      let a = first_each at_place m.places f h in
      let q : ℕ = suc a.0 in
      let b = first_each (version_tests m q) (m.versions q) f a.3 in
      let v : ℕ = suc b.0 in
      let c = first_each (at_version q v) m.rows f b.3 in
      let e : suc c.0 - 1 ≡ c.0 = omega arith in
      elim (first_test (leb (nat_abs (m.amount (suc c.0 - 1) q v)) greatest_amount) (fault_at AmountBeyond q v (suc c.0 - 1)) f [] c.3) [
        | inl x ↦ record {
          place = q;
          version = v;
          row = c.0;
          known = there c.0 q v c.1 (omega arith) (omega (arith, a.1)) (omega arith) (omega (arith, b.1));
          before = λ p u k t. before_first a.0 b.0 c.0 a.2 b.2 c.2 p u k (there_is k p u t);
          beyond = subst (λ r. AmountWithin m r q v → ⊥) e (λ w. clash (le-leb _ _ w) x.0);
          told = subst (λ r. fault_at AmountBeyond q v r ≡ f) e x.1;
        }
        | inr x ↦ absurd (nothing_first f x.1)
      ]

  amounts_fail : (q v row : ℕ) → has_amount m row q v ≡ true → ((p u k : ℕ) → has_amount m k p u ≡ true → ComesBefore p u k q v row → AmountWithin m k p u) → (AmountWithin m row q v → ⊥) → first_fault (each_to at_place m.places) ≡ Some (fault_at AmountBeyond q v row)
  amounts_fail zero v row t before n = absurd (omega (arith, (there_is row zero v t).placed.0))
  amounts_fail (suc a) zero row t before n = absurd (omega (arith, (there_is row (suc a) zero t).known.0))
  amounts_fail (suc a) (suc b) row t before n =
      let q : ℕ = suc a in
      let v : ℕ = suc b in
      let f : Fault = fault_at AmountBeyond q v row in
      let r : There row q v = there_is row q v t in
      let e : row ≡ suc row - 1 = omega arith in
      let last : first_fault (at_version q v (suc row)) ≡ Some f =
      subst (λ k. first_fault (test (leb (nat_abs (m.amount k q v)) greatest_amount) (fault_at AmountBeyond q v k) ∷ []) ≡ Some f) e
      (fails (leb (nat_abs (m.amount row q v)) greatest_amount) f [] (fails_of _ (leb-true _ _, le-leb _ _) n))
      in
      fails_each at_place m.places a f (omega (arith, r.placed.1))
      (each_all Passed at_place a (λ p c d. each_all Passed (version_tests m p) (m.versions p) (λ u g h. passed_amounts p u m.rows (λ k l. before p u k (there k p u l c (omega (arith, r.placed.1)) g h) (inl (omega arith))))))
      (fails_each (version_tests m q) (m.versions q) b f (omega (arith, r.known.1))
      (each_all Passed (version_tests m q) b (λ u g h. passed_amounts q u m.rows (λ k l. before q u k (there k q u l r.placed.0 r.placed.1 g (omega (arith, r.known.1))) (inr (refl, inl (omega arith))))))
      (fails_each (at_version q v) m.rows row f r.few
      (passed_amounts q v row (λ k l. before q v k (there k q v (omega (arith, r.few)) r.placed.0 r.placed.1 r.known.0 r.known.1) (inr (refl, inr (refl, l)))))
      last))

module _ (m : Meaning) (s : Sheet) where
  -- the tests after those of the rows
  abbrev counts_and_amounts : List (Option Fault)
  counts_and_amounts = test (counts_same m s) (fault_at CountsDiffer m.places 0 m.rows) ∷ each_to (at_place m) m.places

  abbrev after_rows : List (Option Fault)
  after_rows = test (eqb (length (order_of s)) s.places && contains_all s.places (order_of s)) (fault OrderNotOnce) ∷ counts_and_amounts

  -- the tests of an opening, with those of the rows at the front of those that follow
  in_order : opening m s ≡ first_fault (test (counts_kept s) (fault CountOutside) ∷ limit_test (limit_of s 0) ∷ (each_to (row_tests_at s) (last_row s) ++ after_rows))
  unfolding opening
  in_order =
      ap (λ ts. first_fault (test (counts_kept s) (fault CountOutside) ∷ limit_test (limit_of s 0) ∷ ts))
      (append_assoc (each_to (row_tests_at s) (last_row s)) (order_test s ∷ []) counts_and_amounts)

  same_decided : Decides (counts_same m s) (SameCounts m s)
  same_decided = (
    λ e. let a = and_parts (eqb m.places s.places) (eqb m.rows (suc (last_row s))) e in ((Decides-eqb _ _).0 a.0, (Decides-eqb _ _).0 a.1),
    λ h. and_from _ _ ((Decides-eqb _ _).1 h.0) ((Decides-eqb _ _).1 h.1),
  )

  row_found : (j : ℕ) → j < last_row s → RowsPass s j → (f : Fault) → first_fault (row_tests_at s (suc j)) ≡ Some f → FaultFound m s f
  row_found j l p f h =
      elim (first_test (kind_known s (suc j)) (fault UnknownKind) f (limit_test (limit_of s (suc j)) ∷ []) h) [
        | inl x ↦ subst (FaultFound m s) x.1 (kind_unknown j l p (not_from_Decides _ (kind_decided s (suc j)) x.0))
        | inr x ↦ elim (first_test (leb (nat_abs (limit_of s (suc j))) greatest_limit) (fault LimitBeyond) f [] x.1) [
          | inl y ↦ subst (FaultFound m s) y.1 (limit_beyond j l p ((kind_decided s (suc j)).0 x.0) (not_from_Decides _ (limit_decided s (suc j)) y.0))
          | inr y ↦ absurd (nothing_first f y.1)
        ]
      ]

  amounts_found : RowsPass s (last_row s) → EachOnce s.places (order_of s) → SameCounts m s → (f : Fault) → first_fault (each_to (at_place m) m.places) ≡ Some f → FaultFound m s f
  amounts_found p o c f h =
      let x : AmountFound m f = amount_found m f h in
      subst (FaultFound m s) x.told (amount_beyond x.place x.version x.row p o c x.known x.before x.beyond)

  after_rows_found : RowsPass s (last_row s) → (f : Fault) → first_fault after_rows ≡ Some f → FaultFound m s f
  after_rows_found p f h =
      elim (first_test (eqb (length (order_of s)) s.places && contains_all s.places (order_of s)) (fault OrderNotOnce) f counts_and_amounts h) [
        | inl x ↦ subst (FaultFound m s) x.1 (order_wrong p (not_from_Decides _ (order_decided s) x.0))
        | inr x ↦ elim (first_test (counts_same m s) (fault_at CountsDiffer m.places 0 m.rows) f (each_to (at_place m) m.places) x.1) [
          | inl y ↦ subst (FaultFound m s) y.1 (counts_differ p ((order_decided s).0 x.0) (not_from_Decides _ same_decided y.0))
          | inr y ↦ amounts_found p ((order_decided s).0 x.0) (same_decided.0 y.0) f y.1
        ]
      ]

  rows_found : CountsWithin s → LimitWithin s 0 → (f : Fault) → first_fault (each_to (row_tests_at s) (last_row s) ++ after_rows) ≡ Some f → FaultFound m s f
  rows_found c k f h =
      elim (first_append (each_to (row_tests_at s) (last_row s)) after_rows f h) [
        | inl x ↦ let r = first_each (row_tests_at s) (last_row s) f x in row_found r.0 r.1 (rows_pass s r.0 c k r.2) f r.3
        | inr x ↦ after_rows_found (rows_pass s (last_row s) c k x.0) f x.1
      ]

  found : (f : Fault) → opening m s ≡ Some f → FaultFound m s f
  found f h =
      elim (first_test (counts_kept s) (fault CountOutside) f (limit_test (limit_of s 0) ∷ (each_to (row_tests_at s) (last_row s) ++ after_rows)) (sym in_order ∙ h)) [
        | inl x ↦ subst (FaultFound m s) x.1 (counts_outside (not_from_Decides _ (counts_decided s) x.0))
        | inr x ↦ elim (first_test (leb (nat_abs (limit_of s 0)) greatest_limit) (fault LimitBeyond) f (each_to (row_tests_at s) (last_row s) ++ after_rows) x.1) [
          | inl y ↦ subst (FaultFound m s) y.1 (cap_beyond ((counts_decided s).0 x.0) (not_from_Decides _ (limit_decided s 0) y.0))
          | inr y ↦ rows_found ((counts_decided s).0 x.0) ((limit_decided s 0).0 y.0) f y.1
        ]
      ]

  -- past the rows, with the counts and the cap kept
  past_rows : RowsPass s (last_row s) → {o : Option Fault} → first_fault after_rows ≡ o → opening m s ≡ o
  past_rows p h =
      in_order ∙ passes _ (fault CountOutside) _ ((counts_decided s).1 p.counts) (passes _ (fault LimitBeyond) _ ((limit_decided s 0).1 p.cap) (fails_right (each_to (row_tests_at s) (last_row s)) after_rows (pass_rows s (last_row s) p) h))

  at_row : (r : ℕ) → r < last_row s → RowsPass s r → (f : Fault) → first_fault (row_tests_at s (suc r)) ≡ Some f → opening m s ≡ Some f
  at_row r l p f h =
      in_order ∙ passes _ (fault CountOutside) _ ((counts_decided s).1 p.counts) (passes _ (fault LimitBeyond) _ ((limit_decided s 0).1 p.cap)
      (fails_left (each_to (row_tests_at s) (last_row s)) after_rows f (fails_each (row_tests_at s) (last_row s) r f l (pass_rows s r p) h)))

  found_first : (f : Fault) → FaultFound m s f → opening m s ≡ Some f
  found_first f (counts_outside n) = in_order ∙ fails _ (fault CountOutside) _ (fails_of _ (counts_decided s) n)
  found_first f (cap_beyond c n) = in_order ∙ passes _ (fault CountOutside) _ ((counts_decided s).1 c) (fails _ (fault LimitBeyond) _ (fails_of _ (limit_decided s 0) n))
  found_first f (kind_unknown r l p n) = at_row r l p f (fails _ (fault UnknownKind) _ (fails_of _ (kind_decided s (suc r)) n))
  found_first f (limit_beyond r l p k n) = at_row r l p f (passes _ (fault UnknownKind) _ ((kind_decided s (suc r)).1 k) (fails _ (fault LimitBeyond) _ (fails_of _ (limit_decided s (suc r)) n)))
  found_first f (order_wrong p n) = past_rows p (fails _ (fault OrderNotOnce) _ (fails_of _ (order_decided s) n))
  found_first f (counts_differ p o n) =
      past_rows p (passes _ (fault OrderNotOnce) _ ((order_decided s).1 o) (fails _ (fault_at CountsDiffer m.places 0 m.rows) _ (fails_of _ same_decided n)))
  found_first f (amount_beyond q v row p o c t before n) =
      past_rows p (passes _ (fault OrderNotOnce) _ ((order_decided s).1 o) (passes _ (fault_at CountsDiffer m.places 0 m.rows) _ (same_decided.1 c) (amounts_fail m q v row t before n)))

pub opening_law : OpeningLaw
opening_law m s = record { none = (none_faultless m s, faultless_none m s); first = λ f. (found m s f, found_first m s f) }
