-- How long a verdict can be: the price and the versions of a choice, and the lines of a closing ground. Assumes nothing.
use Rattle.std.proofs.Common.{◌≡◌, ℕ, zero, suc, ◌+◌, ◌-◌, ◌*◌, ◌<◌, ◌≤◌, List, [], ◌∷◌, ◌++◌, length, get_or, codes, decimal, flat_map, nat_abs, Some, None, Option, subst, suc-mul, arith, length-append}
use Rattle.std.specs.List.{AllByRecursion}
use Rattle.std.proofs.ByRecursion.{All-weaker}
use Rattle.std.proofs.lemmas.Fmt.{length-decimal-le, length_signed_le}
use Rattle.rules.specs.declared.kinds.Kind.TheVariants.{SumAtMost}
use Rattle.rules.specs.declared.lines.ClosingLine.{ClosingLine}
use Rattle.rules.specs.declared.sheets.Sheet.{Sheet}
use Rattle.rules.specs.Bounds.{amount_reach, greatest_amount, greatest_row, most_grounds, most_places, most_steps, most_versions}
use Rattle.rules.specs.Joinings.{joined_over, sum_at_most}
use Rattle.rules.specs.Catalogues.{Meaning, SoundMeaning}
use Rattle.rules.specs.Sheets.{Limits}
use Rattle.rules.specs.Choices.{BestKeeps, Choice, InShape, Rising, Told, TrueAt, WellTold, price, says_full, says_least, says_none, says_unfinished, version}
use Rattle.rules.specs.Openings.{Faultless}
use Rattle.rules.specs.Settings.{Seen}
use Rattle.rules.proofs.JoiningLaws.{kind_laws}
use Rattle.report.specs.Reports.{choice_text, closing_line, seen_text, told_ground, told_text}
use Rattle.report.proofs.LineLengths.{closing_fits, line_most}

-- no verdict is longer
abbrev pub verdict_most : ℕ
verdict_most = 275

-- versions behind spaces
versions_fit : (c : List ℕ) → ((i : ℕ) → i < length c → get_or c i 0 ≤ most_versions) → length (flat_map (λ v. codes " " ++ decimal v) c) ≤ 3 * length c
versions_fit [] h = omega arith
versions_fit (v ∷ c) h =
    let one : v ≤ most_versions = h 0 (omega arith) in
    let more = versions_fit c (λ i l. h (suc i) (omega arith)) in
    grind (arith, length-append, length-decimal-le 2 v, more)

-- rising rows are few
rising_few : (k n : ℕ) (g : List ClosingLine) → k ≤ suc n → Rising g → AllByRecursion (λ l. k ≤ l.row) g → AllByRecursion (λ l. l.row ≤ n) g → k + length g ≤ suc n
rising_few k n [] h r a b = omega arith
rising_few k n (l ∷ g) h r a b = omega (arith, rising_few (suc l.row) n g (omega (arith, b.0)) r.1 r.0 b.1, a.0)

lines_fit : (n : ℕ) → n ≤ most_places → (g : List ClosingLine) → AllByRecursion (λ l. l.row ≤ greatest_row) g → AllByRecursion (λ l. nat_abs l.constant ≤ amount_reach + n * greatest_amount) g → length (flat_map closing_line g) ≤ line_most * length g
lines_fit n few [] h near = omega arith
lines_fit n few (l ∷ g) h near =
    omega (arith, length-append (closing_line l) (flat_map closing_line g), closing_fits l h.0 (omega (arith, near.0, few)), lines_fit n few g h.1 near.1)

from_zero : (g : List ClosingLine) → AllByRecursion (λ l. 0 ≤ l.row) g
from_zero [] = tt
from_zero (l ∷ g) = (omega arith, from_zero g)

module _ (m : Meaning) (w : SoundMeaning m) (s : Sheet) (f : Faultless m s) where
  -- a choice's price over the places up to one
  price_near : (c : List ℕ) → Choice m s c → (q : ℕ) → q ≤ s.places → nat_abs (joined_over sum_at_most (λ q. m.amount 0 q (version c q)) q) ≤ q * greatest_amount
  price_near c h zero l = omega arith
  price_near c h (suc q) l =
      let v = h.1 (suc q) (omega arith) l in
      omega (arith, (kind_laws SumAtMost).near (joined_over sum_at_most (λ q. m.amount 0 q (version c q)) q) (m.amount 0 (suc q) (version c (suc q))), price_near c h q (omega arith), f.amounts 0 (suc q) (version c (suc q)) (omega arith) (omega arith) l v.0 v.1, suc-mul q greatest_amount)

  version_few : (c : List ℕ) → Choice m s c → (i : ℕ) → i < s.places → get_or c i 0 ≤ most_versions
  version_few c h i l =
      let at : suc i - 1 ≡ i = omega arith in
      let v = h.1 (suc i) (omega arith) (omega arith) in
      subst (λ x. get_or c x 0 ≤ most_versions) at (omega (arith, v.1, w.few_versions (suc i) (omega arith) (omega (arith, f.same_places))))

  choice_fits : (c : List ℕ) → Choice m s c → length (choice_text m s (Some c)) ≤ 58
  choice_fits c h =
      let few = f.few_places in
      let near : nat_abs (price m s c) ≤ 16000000 = omega (arith, price_near c h s.places (omega arith), few) in
      let there = λ (i : ℕ) (l : i < length c). version_few c h i (omega (arith, l, h.0)) in
      grind (arith, length-append, length_signed_le 8 (price m s c), versions_fit c there, few, h.0, near)

  best_fits : (L : Limits) (best : Option (List ℕ)) → BestKeeps m s L best → length (choice_text m s best) ≤ 58
  best_fits L None h = omega arith
  best_fits L (Some c) h = choice_fits c h.0

  told_fits : (L : Limits) (t : Told) → TrueAt m s L t → length (told_text m s t) ≤ 68
  told_fits L (says_least c g) h = omega (arith, length-append (codes "LEAST") (choice_text m s (Some c)), choice_fits c h.0.0)
  told_fits L (says_none g) h = omega arith
  told_fits L (says_full best) h = omega (arith, length-append (codes "FULL") (choice_text m s best), best_fits L best h)
  told_fits L (says_unfinished best) h = omega (arith, length-append (codes "UNFINISHED") (choice_text m s best), best_fits L best h)

  ground_fits : (g : List ClosingLine) → InShape s g → length (flat_map closing_line g) ≤ 180
  ground_fits g h =
      let rows = All-weaker (λ l. l.row ≤ s.last_row) (λ l. l.row ≤ greatest_row) (λ l a. omega (arith, a, f.few_rows)) g h.rows in
      omega (arith, rising_few 0 greatest_row g (omega arith) h.rising (from_zero g) rows, lines_fit s.places f.few_places g rows h.near)

  told_ground_fits : (t : Told) → WellTold s t → length (flat_map closing_line (told_ground t)) ≤ 180
  told_ground_fits (says_least c g) h = ground_fits g h
  told_ground_fits (says_none g) h = ground_fits g h
  told_ground_fits (says_full best) h = omega arith
  told_ground_fits (says_unfinished best) h = omega arith

  pub seen_fits : (L : Limits) (v : Seen) → TrueAt m s L v.says → WellTold s v.says → v.steps ≤ most_steps → v.held ≤ most_grounds → length (seen_text m s v) ≤ verdict_most
  seen_fits L v h k a b =
      grind (arith, length-append, length-decimal-le 7 v.steps, length-decimal-le 3 v.held, told_fits L v.says h, told_ground_fits v.says k)
