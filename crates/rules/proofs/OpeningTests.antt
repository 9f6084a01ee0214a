-- An opening finds a fault exactly when there is one. Assumes nothing.
use Rattle.std.proofs.Common.{◌≡◌, ℕ, suc, ◌≤◌, true, eqb, leb, List, [], ◌∷◌, length, ℤ, nat_abs, is_some, None, Option, subst, inl, inr, arith}
use Rattle.std.specs.List.{AllByRecursion}
use Rattle.std.proofs.ByRecursion.{All-append}
use Rattle.std.proofs.lemmas.Bool.{and_parts, and_from, leb-true, le-leb, eqb-true, eq-eqb, cases_lt}
use Rattle.rules.specs.declared.refusals.Fault.{Fault}
use Rattle.rules.specs.declared.refusals.Refusal.TheVariants.{AmountBeyond, CountOutside, CountsDiffer, LimitBeyond, OrderNotOnce, UnknownKind}
use Rattle.rules.specs.declared.sheets.Sheet.{Sheet}
use Rattle.rules.specs.Bounds.{greatest_limit}
use Rattle.rules.specs.Joinings.{kind_numbered}
use Rattle.rules.specs.Catalogues.{Meaning}
use Rattle.rules.specs.Sheets.{kind_of, last_row, limit_of, order_of}
use Rattle.rules.specs.Refusals.{fault, fault_at}
use Rattle.rules.specs.Openings.{Faultless, catalogue_tests, contains_all, each_to, limit_test, opening, order_test, place_tests, row_tests, rows_tests, sheet_tests, tests, version_tests}
use Rattle.rules.proofs.TestLists.{Passed, all_passed, none_first, test_passed, passed_test, all_left, all_right, each_at, each_all, all_contained, contained_all}
use Rattle.rules.proofs.AmountTests.{amounts_within, within_amounts}
use Rattle.rules.proofs.KindNumbers.{kind_there, there_kind}

limit_kept : (z : ℤ) → Passed (limit_test z) → nat_abs z ≤ greatest_limit
limit_kept z h = leb-true _ _ (test_passed (leb (nat_abs z) greatest_limit) (fault LimitBeyond) h)

kept_limit : (z : ℤ) → nat_abs z ≤ greatest_limit → Passed (limit_test z)
kept_limit z h = passed_test _ (fault LimitBeyond) (le-leb _ _ h)

module _ (m : Meaning) (s : Sheet) where
  abbrev row_tests_at : ℕ → List (Option Fault)
  row_tests_at r = row_tests (kind_of s r) (limit_of s r)

  pub none_faultless : opening m s ≡ None → Faultless m s
  unfolding opening
  none_faultless h =
      let all = all_passed (tests m s) h in
      let of_sheet = all_left Passed (sheet_tests s) (catalogue_tests m s) all in
      let of_catalogue = all_right Passed (sheet_tests s) (catalogue_tests m s) all in
      let c = and_parts _ _ (test_passed _ _ of_sheet.0) in
      let d = and_parts _ _ c.1 in
      let rows : AllByRecursion Passed (rows_tests s (last_row s)) = all_left Passed (rows_tests s (last_row s)) (order_test s ∷ []) of_sheet.1.1 in
      let order = all_right Passed (rows_tests s (last_row s)) (order_test s ∷ []) of_sheet.1.1 in
      let once = and_parts (eqb (length (order_of s)) s.places) (contains_all s.places (order_of s)) (test_passed _ _ order.0) in
      let same = and_parts _ _ (test_passed _ _ of_catalogue.0) in
      let same_places : m.places ≡ s.places = eqb-true _ _ same.0 in
      let same_rows : m.rows ≡ suc (last_row s) = eqb-true _ _ same.1 in
      let row = λ (r : ℕ) (a : 1 ≤ r) (b : r ≤ last_row s). each_at Passed row_tests_at (last_row s) rows r a b in
      record {
        some_place = leb-true _ _ c.0;
        few_places = leb-true _ _ d.0;
        few_rows = leb-true _ _ d.1;
        kinds = λ r a b. kind_there (kind_of s r) (test_passed _ _ (row r a b).0);
        limits = λ r b. elim (cases_lt 0 r) [
          | inl l ↦ limit_kept (limit_of s r) (row r l b).1.0
          | inr l ↦ let e : 0 ≡ r = omega arith in subst (λ x. nat_abs (limit_of s x) ≤ greatest_limit) e (limit_kept (limit_of s 0) of_sheet.1.0)
        ];
        order = (eqb-true _ _ once.0, all_contained s.places (order_of s) once.1);
        same_places = same_places;
        same_rows = same_rows;
        amounts = λ r q v b qa qb va vb.
            let at_place = each_at Passed (place_tests m) m.places of_catalogue.1 q qa (omega (arith, same_places)) in
            let at_version = each_at Passed (version_tests m q) (m.versions q) at_place v va vb in
            amounts_within m.rows (λ row. m.amount row q v) (fault_at AmountBeyond q v) at_version r (omega (arith, same_rows));
      }

  pub faultless_none : Faultless m s → opening m s ≡ None
  unfolding opening
  faultless_none f =
      let limit : (r : ℕ) → r ≤ last_row s → Passed (limit_test (limit_of s r)) = λ r b. kept_limit (limit_of s r) (f.limits r b) in
      let rows : AllByRecursion Passed (rows_tests s (last_row s)) =
      each_all Passed row_tests_at (last_row s) (λ r a b. let k = f.kinds r a b in (passed_test _ (fault UnknownKind) (subst (λ n. is_some (kind_numbered n) ≡ true) k.1 (there_kind k.0)), (limit r b, tt))) in
      let amounts : AllByRecursion Passed (each_to (place_tests m) m.places) =
      each_all Passed (place_tests m) m.places (λ q qa qb.
      each_all Passed (version_tests m q) (m.versions q) (λ v va vb.
      within_amounts m.rows (λ row. m.amount row q v) (fault_at AmountBeyond q v) (λ row l. f.amounts row q v (omega (arith, f.same_rows)) qa (omega (arith, f.same_places)) va vb))) in
      let counts = passed_test _ (fault CountOutside) (and_from _ _ (le-leb 1 s.places f.some_place) (and_from _ _ (le-leb s.places 16 f.few_places) (le-leb (last_row s) 8 f.few_rows))) in
      let once = passed_test _ (fault OrderNotOnce) (and_from _ _ (eq-eqb _ _ f.order.0) (contained_all s.places (order_of s) f.order.1)) in
      let same = passed_test _ (fault_at CountsDiffer m.places 0 m.rows) (and_from _ _ (eq-eqb _ _ f.same_places) (eq-eqb _ _ f.same_rows)) in
      let of_sheet : AllByRecursion Passed (sheet_tests s) = (counts, (limit 0 (omega arith), All-append Passed (rows_tests s (last_row s)) (order_test s ∷ []) rows (once, tt))) in
      none_first (tests m s) (All-append Passed (sheet_tests s) (catalogue_tests m s) of_sheet (same, amounts))
