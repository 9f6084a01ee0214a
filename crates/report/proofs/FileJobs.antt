-- A job in memory has the setting and the limits of the job that its file states, and opens as that does. Assumes nothing.
use Rattle.std.proofs.Common.{◌≡◌, ℕ, zero, suc, ◌<◌, ◌≤◌, Bool, true, false, cond, List, get_or, get_or-take, ℤ, pos, nat_abs, Some, None, Option, inl, inr, refl, sym, ap, ◌∙◌, ap₂, subst, arith}
use Rattle.std.proofs.lemmas.Bool.{and_from, cases_lt, cond-true, le-leb, lt-ltb}
use Rattle.std.proofs.lemmas.List.{get_or_past, take_all}
use Rattle.rules.specs.declared.sheets.Sheet.{Sheet}
use Rattle.rules.specs.Bounds.{greatest_amount, greatest_limit}
use Rattle.rules.specs.Catalogues.{Meaning, SameAnswers, has_amount, has_place}
use Rattle.rules.specs.Choices.{Choice, price, version}
use Rattle.rules.specs.Grounds.{Setting}
use Rattle.rules.specs.Joinings.{Joining, joined_over, kind_number, kind_numbered, sum_at_most}
use Rattle.rules.specs.declared.kinds.Kind.{Kind}
use Rattle.rules.specs.Openings.{Faultless}
use Rattle.rules.specs.Settings.{amount_in, place_at, setting, versions_in}
use Rattle.rules.specs.Sheets.{EachOnce, blank_row, joining_found, kind_of, last_row, limit_of, order_of}
use Rattle.rules.proofs.OpeningTests.{faultless_none}
use Rattle.jobfile.specs.declared.job.Job.{Job}
use Rattle.jobfile.specs.Jobs.{job_meaning, stated_by}
use Rattle.jobfile.specs.Opened.{stated_meaning, stated_sheet}
use Rattle.jobfile.specs.Sound.{Tables}
use Rattle.jobfile.specs.Stated.{Stated}
use Rattle.jobfile.specs.Validity.{Valid}
use Rattle.jobfile.proofs.OpensWell.{opens_law}
use Rattle.report.proofs.SameReports.{Alike}

-- what is told, or else what stands for it
abbrev told_or : {X : Type 0} → Option X → X → X
told_or (Some x) d = x
told_or None d = d

told_where : {X : Type 0} (b : Bool) (x d : X) → told_or (cond b (Some x) None) d ≡ cond b x d
told_where true x d = refl
told_where false x d = refl

joined_same : (J : Joining) (f g : ℕ → ℤ) (n : ℕ) → ((q : ℕ) → 1 ≤ q → q ≤ n → f q ≡ g q) → joined_over J f n ≡ joined_over J g n
joined_same J f g zero h = refl
joined_same J f g (suc n) h = ap₂ J.join (joined_same J f g n (λ q x y. h q x (omega arith))) (h (suc n) (omega arith) (omega arith))

module _ (a b : Meaning) (same : SameAnswers a b) where
  -- where two catalogues answer alike, they have the same versions and amounts, with 0 outside the meaning
  versions_same : (q : ℕ) → versions_in a q ≡ versions_in b q
  versions_same q = sym (told_where (has_place a q) (a.versions q) 0) ∙ ap (λ o. told_or o 0) (same.versions q) ∙ told_where (has_place b q) (b.versions q) 0

  amounts_same : (row q v : ℕ) → amount_in a row q v ≡ amount_in b row q v
  amounts_same row q v = sym (told_where (has_amount a row q v) (a.amount row q v) (pos 0)) ∙ ap (λ o. told_or o (pos 0)) (same.amounts row q v) ∙ told_where (has_amount b row q v) (b.amount row q v) (pos 0)

  placed : (m : Meaning) (q : ℕ) → 1 ≤ q → q ≤ m.places → has_place m q ≡ true
  placed m q x y = and_from _ _ (le-leb 1 q x) (le-leb q m.places y)

  there : (m : Meaning) (row q v : ℕ) → row < m.rows → 1 ≤ q → q ≤ m.places → 1 ≤ v → v ≤ m.versions q → has_amount m row q v ≡ true
  there m row q v r x y u w = and_from _ _ (lt-ltb row m.rows r) (and_from _ _ (placed m q x y) (and_from _ _ (le-leb 1 v u) (le-leb v (m.versions q) w)))

  versions_there : (q : ℕ) → 1 ≤ q → q ≤ b.places → a.versions q ≡ b.versions q
  versions_there q x y =
      sym (cond-true (has_place a q) (a.versions q) 0 (placed a q x (omega (arith, same.places)))) ∙ versions_same q ∙ cond-true (has_place b q) (b.versions q) 0 (placed b q x y)

  amounts_there : (row q v : ℕ) → row < b.rows → 1 ≤ q → q ≤ b.places → 1 ≤ v → v ≤ b.versions q → a.amount row q v ≡ b.amount row q v
  amounts_there row q v r x y u w =
      sym (cond-true (has_amount a row q v) (a.amount row q v) (pos 0) (there a row q v (omega (arith, same.rows)) x (omega (arith, same.places)) u (subst (λ n. v ≤ n) (sym (versions_there q x y)) w)))
      ∙ amounts_same row q v
      ∙ cond-true (has_amount b row q v) (b.amount row q v) (pos 0) (there b row q v r x y u w)

module _ (file : List ℕ) (j : Job) (v : Valid (stated_by file j)) (same : SameAnswers (job_meaning file j) (stated_meaning (stated_by file j))) (tables : Tables file j) where
  abbrev t : Stated
  t = stated_by file j

  abbrev a : Meaning
  a = job_meaning file j

  abbrev b : Meaning
  b = stated_meaning t

  abbrev s : Sheet
  s = j.sheet

  abbrev u : Sheet
  u = stated_sheet t

  row_same : (r : ℕ) → get_or s.rows r blank_row ≡ get_or u.rows r blank_row
  row_same r =
      elim (cases_lt r (last_row s)) [
        | inl stated ↦ sym (get_or-take (last_row s) s.rows r blank_row stated)
        | inr past ↦ tables.blank_rows r past ∙ sym (get_or_past u.rows r blank_row (omega (arith, v.row_count)))
      ]

  kinds_same : (r : ℕ) → kind_of s r ≡ kind_of u r
  kinds_same zero = refl
  kinds_same (suc r) = ap (λ x. x.kind) (row_same r)

  limits_same : (r : ℕ) → limit_of s r ≡ limit_of u r
  limits_same zero = refl
  limits_same (suc r) = ap (λ x. x.limit) (row_same r)

  order_same : order_of s ≡ order_of u
  order_same = sym (take_all s.places (order_of s) (omega (arith, v.order.0)))

  abbrev seen_as : (ℕ → ℕ) → (ℕ → ℕ) → (ℕ → ℕ → ℕ → ℤ) → List ℕ → Setting
  seen_as kind versions amount order =
      record {
        places = s.places;
        last_row = last_row s;
        joining = λ r. joining_found (kind_numbered (kind r));
        versions = λ p. versions (place_at order p);
        amount = λ row p v. amount row (place_at order p) v;
      }

  setting_same : setting a s ≡ setting b u
  setting_same = λ i. seen_as (λ r. kinds_same r i) (λ q. versions_same a b same q i) (λ row q v. amounts_same a b same row q v i) (order_same i)

  price_same : (c : List ℕ) → Choice b u c → price a s c ≡ price b u c
  price_same c h =
      joined_same sum_at_most (λ q. a.amount 0 q (version c q)) (λ q. b.amount 0 q (version c q)) s.places
      (λ q x y. let k = h.1 q x y in amounts_there a b same 0 q (version c q) (omega arith) x (omega (arith, y, v.place_count)) k.0 k.1)

  amounts_near : (row q w : ℕ) → row ≤ last_row s → 1 ≤ q → q ≤ s.places → 1 ≤ w → w ≤ a.versions q → nat_abs (a.amount row q w) ≤ greatest_amount
  amounts_near row q w r x y z few =
      let placed : q ≤ b.places = omega (arith, y, v.place_count) in
      let there : w ≤ b.versions q = subst (λ n. w ≤ n) (versions_there a b same q x placed) few in
      subst (λ z. nat_abs z ≤ greatest_amount) (sym (amounts_there a b same row q w (omega arith) x placed z there)) ((opens_law t v).1.amounts row q w r x y z there)

  faultless : Faultless a s
  faultless =
      let f = (opens_law t v).1 in
      record {
        some_place = f.some_place;
        few_places = f.few_places;
        few_rows = f.few_rows;
        kinds = λ r x y. subst (λ n. (k : Kind) × (kind_number k ≡ n)) (sym (kinds_same r)) (f.kinds r x y);
        limits = λ r x. subst (λ z. nat_abs z ≤ greatest_limit) (sym (limits_same r)) (f.limits r x);
        order = subst (EachOnce s.places) (sym order_same) f.order;
        same_places = same.places ∙ f.same_places;
        same_rows = same.rows ∙ f.same_rows;
        amounts = amounts_near;
      }

  pub alike : Alike a b s u
  alike =
      record {
        places = refl;
        last_row = refl;
        order = order_same;
        limits = λ i r. limits_same r i;
        settings = setting_same;
        prices = price_same;
        opens = faultless_none a s faultless;
      }
