-- A job that a file states opens without a fault. Assumes nothing.
use Rattle.std.proofs.Common.{◌≡◌, ℕ, zero, suc, ◌+◌, ◌-◌, ◌<◌, ◌≤◌, leb, [], length, get_or, pos, nat_abs, sym, refl, subst, arith}
use Rattle.std.proofs.ByRecursion.{All-get_or}
use Rattle.std.proofs.lemmas.List.{take_all}
use Rattle.std.proofs.lemmas.Bool.{cond_both, leb-true, leb-false}
use Rattle.rules.specs.declared.kinds.Kind.{Kind}
use Rattle.rules.specs.Bounds.{most_versions, greatest_amount, greatest_limit}
use Rattle.rules.specs.Joinings.{kind_number}
use Rattle.rules.specs.Catalogues.{SoundMeaning, rung}
use Rattle.rules.specs.Sheets.{EachOnce, kind_of, limit_of, order_of, blank_row}
use Rattle.rules.specs.Openings.{Faultless}
use Rattle.rules.proofs.Bools.{split}
use Rattle.jobfile.specs.Stated.{LadderStated, PlaceStated, Stated, held, no_rung}
use Rattle.jobfile.specs.Validity.{ValidRow, ValidVersion, ValidPlace, ValidLadder, Valid}
use Rattle.jobfile.specs.Opened.{stated_sheet, no_ladder, ladder_of, stated_meaning}
use Rattle.jobfile.specs.Theorems.{OpensLaw}

module _ (j : Stated) (v : Valid j) where
  place_good : (q : ℕ) → 1 ≤ q → q ≤ length j.listed → ValidPlace j.last_row (held j q)
  place_good q a b = All-get_or (ValidPlace j.last_row) j.listed (q - 1) [] (omega arith) v.listed

  ladder_good : (q : ℕ) → length j.listed < q → q ≤ length j.listed + length j.ladders → ValidLadder j.last_row (ladder_of j q)
  ladder_good q a b = All-get_or (ValidLadder j.last_row) j.ladders (q - suc (length j.listed)) no_ladder (omega arith) v.ladders

  -- what holds of both kinds of places holds of the versions of each
  versions_good : (P : ℕ → Type 0) → ((p : PlaceStated) → ValidPlace j.last_row p → P (length p)) → ((l : LadderStated) → ValidLadder j.last_row l → P l.count) → (q : ℕ) → 1 ≤ q → q ≤ (stated_meaning j).places → P ((stated_meaning j).versions q)
  versions_good P f g q a b =
      cond_both (leb q (length j.listed)) (length (held j q)) (ladder_of j q).count P
      (λ e. f (held j q) (place_good q a (leb-true _ _ e)))
      (λ e. g (ladder_of j q) (ladder_good q (leb-false _ _ e) b))

  amounts_good : (row q w : ℕ) → row ≤ j.last_row → 1 ≤ q → q ≤ (stated_meaning j).places → 1 ≤ w → w ≤ (stated_meaning j).versions q → nat_abs ((stated_meaning j).amount row q w) ≤ greatest_amount
  amounts_good row q w r a b x y =
      split (leb q (length j.listed))
      (λ e.
      let p = place_good q a (leb-true _ _ e) in
      let few : w ≤ length (held j q) = simp e at y in
      let g = All-get_or (ValidVersion j.last_row) (held j q) (w - 1) [] (omega arith) p.versions in
      simp e (All-get_or (λ z. nat_abs z ≤ greatest_amount) (get_or (held j q) (w - 1) []) row (pos 0) (omega (arith, g.each_row)) g.amounts))
      (λ e.
      let l = ladder_good q (leb-false _ _ e) b in
      let few : w ≤ (ladder_of j q).count = simp e at y in
      simp e (All-get_or (λ g. nat_abs (rung g.base g.step w) ≤ greatest_amount) (ladder_of j q).rungs row no_rung (omega (arith, l.each_row)) (l.amounts w x few)))

  sound : SoundMeaning (stated_meaning j)
  sound =
      record {
        few_places = omega (arith, v.place_count, v.few_places);
        some_row = omega arith;
        few_rows = omega (arith, v.few_rows);
        some_version = versions_good (λ n. 1 ≤ n) (λ p h. h.some) (λ l h. h.some);
        few_versions = versions_good (λ n. n ≤ most_versions) (λ p h. h.few) (λ l h. h.few);
        near = λ row q w r a b x y. omega (arith, amounts_good row q w (omega arith) a b x y);
      }

  order_whole : order_of (stated_sheet j) ≡ j.order
  order_whole = take_all j.places j.order (omega (arith, v.order.0))

  row_kind : (r : ℕ) → 1 ≤ r → r ≤ j.last_row → (k : Kind) × (kind_number k ≡ kind_of (stated_sheet j) r)
  row_kind zero a b = absurd (omega arith)
  row_kind (suc r) a b = (All-get_or ValidRow j.rows r blank_row (omega (arith, v.row_count)) v.rows).kind

  row_limit : (r : ℕ) → r ≤ j.last_row → nat_abs (limit_of (stated_sheet j) r) ≤ greatest_limit
  row_limit zero b = v.cap
  row_limit (suc r) b = (All-get_or ValidRow j.rows r blank_row (omega (arith, v.row_count)) v.rows).limit

  faultless : Faultless (stated_meaning j) (stated_sheet j)
  faultless =
      record {
        some_place = v.some_place;
        few_places = v.few_places;
        few_rows = v.few_rows;
        kinds = row_kind;
        limits = row_limit;
        order = subst (EachOnce j.places) (sym order_whole) v.order;
        same_places = v.place_count;
        same_rows = refl;
        amounts = λ row q w r a b x y. amounts_good row q w r a (omega (arith, v.place_count)) x y;
      }

pub opens_law : OpensLaw
opens_law j v = (sound j v, faultless j v)
