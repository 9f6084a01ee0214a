-- The lines of closing grounds. Assumes nothing.
use Rattle.std.proofs.Common.{◌≡◌, ◌+◌, ◌*◌, ◌<◌, ◌≤◌, true, eqb, ltb, leb, List, [], ◌∷◌, length, nat_abs, Some, None, Option, subst, inl, inr, arith}
use lib.ListN.{length-map}
use Rattle.std.specs.List.{AllByRecursion}
use Rattle.std.proofs.lemmas.Bool.{and_parts, or_cases, leb-true, ltb-true}
use Rattle.rules.specs.declared.lines.Line.{Line}
use Rattle.rules.specs.declared.sheets.Sheet.{Sheet}
use Rattle.rules.specs.Bounds.{amount_reach, greatest_amount}
use Rattle.rules.specs.Catalogues.{Meaning}
use Rattle.rules.specs.Sheets.{Limits, last_row}
use Rattle.rules.specs.Choices.{InShape, Rising, Told, WellTold}
use Rattle.rules.specs.Grounds.{Ground, Learnable, Ordered, Part, Setting, SoundSetting, WellFormed, before, ledger, line_stands, open_places, stands}
use Rattle.rules.specs.Search.{Ended, Named, Outcome, State, ended, full, in_force, stepped}
use Rattle.rules.specs.Calls.{Answer, Call, Does, Job, Verdict, changes, clears, closed, closes, finding_at, refuses, running, runs, searches, when_ended}
use Rattle.rules.specs.Histories.{Entry, History, began_with, called, learned_of, opened}
use Rattle.rules.specs.Settings.{closing_lines, setting, told}
use Rattle.rules.specs.Promises.{Says, by_run, by_verdict}
use Rattle.rules.proofs.ByPosition.{AmountsNear, Near}
use Rattle.rules.proofs.Firsts.{Holds, first_holds}
use Rattle.rules.proofs.Learning.{ledger_learnable}
use Rattle.rules.proofs.Shapes.{learnable_shaped}
use Rattle.rules.proofs.CallHistories.{all_kept, held}

module _ (m : Meaning) (s : Sheet) (W : SoundSetting (setting m s)) (near : AmountsNear (setting m s) greatest_amount) where
  abbrev S : Setting
  S = setting m s

  -- a line that stands with all places open has their number for its level
  levels : (L : Limits) (g : Ground) → stands S L [] g ≡ true → AllByRecursion (λ l. (l.row ≤ S.last_row) × (l.level ≤ S.places)) g → AllByRecursion (λ l. l.level ≡ S.places) g
  levels L [] h r = tt
  levels L (l ∷ g) h r =
      let a = and_parts (line_stands S L [] l) (stands S L [] g) h in
      let b = and_parts (leb (open_places S []) l.level) _ a.0 in
      let c : open_places S [] ≤ l.level = leb-true _ _ b.0 in
      (omega (arith, c, r.0.1), levels L g a.1 r.1)

  later_rows : (a : Line) (g : Ground) → a.level ≡ S.places → AllByRecursion (λ b. before a b ≡ true) g → AllByRecursion (λ l. l.level ≡ S.places) g → AllByRecursion (λ k. a.row < k.row) (closing_lines g)
  later_rows a [] e h k = tt
  later_rows a (b ∷ g) e h k = (
    elim (or_cases (ltb a.row b.row) _ h.0) [
      | inl l ↦ ltb-true _ _ l
      | inr l ↦ let d = and_parts (eqb a.row b.row) (ltb a.level b.level) l in let x : a.level < b.level = ltb-true _ _ d.1 in absurd (omega (arith, x, e, k.0))
    ],
    later_rows a g e h.1 k.1,
  )

  rising : (g : Ground) → Ordered g → AllByRecursion (λ l. l.level ≡ S.places) g → Rising (closing_lines g)
  rising [] h k = tt
  rising (a ∷ g) h k = (later_rows a g k.0 h.0 k.1, rising g h.1 k.1)

  rows_in : (g : Ground) → AllByRecursion (λ l. (l.row ≤ S.last_row) × (l.level ≤ S.places)) g → AllByRecursion (λ l. l.row ≤ last_row s) (closing_lines g)
  rows_in [] h = tt
  rows_in (l ∷ g) h = (h.0.0, rows_in g h.1)

  near_in : (g : Ground) → AllByRecursion (Near greatest_amount) g → AllByRecursion (λ l. l.level ≡ S.places) g → AllByRecursion (λ l. nat_abs l.constant ≤ amount_reach + s.places * greatest_amount) (closing_lines g)
  near_in [] h k = tt
  near_in (l ∷ g) h k = (subst (λ n. nat_abs l.constant ≤ amount_reach + n * greatest_amount) k.0 h.0, near_in g h.1 k.1)

  closing_shape : (L : Limits) (σ : State) (g : Ground) → AllByRecursion (Learnable S) σ.learned → Ended S L σ g → InShape s (closing_lines g)
  closing_shape L σ g h e =
      let f : Learnable S g × (stands S (in_force S L σ) [] g ≡ true) = subst (Holds (λ x. Learnable S x × (stands S (in_force S L σ) [] x ≡ true))) e.1 (first_holds S (Learnable S) (in_force S L σ) [] (ledger S σ.learned) (ledger_learnable S σ.learned h)) in
      let k : WellFormed S g × AllByRecursion (Near greatest_amount) g = learnable_shaped S W greatest_amount near f.0 in
      let at : AllByRecursion (λ l. l.level ≡ S.places) g = levels (in_force S L σ) g f.1 k.0.in_range in
      let long : length (closing_lines g) ≡ length g = length-map g _ in
      record {
        some_line = omega (arith, long, k.0.some_line);
        rising = rising g k.0.ordered at;
        rows = rows_in g k.0.in_range;
        near = near_in g k.1 at;
      }

  abbrev VerdictShape : Option Verdict → Type 0
  VerdictShape None = Unit {0}
  VerdictShape (Some v) = WellTold s (told s v.finding)

  abbrev JobShape : Job → Type 0
  JobShape (closed L gs v) = VerdictShape v
  JobShape (running L σ) = Unit {0}

  ended_shape : (best : Option Part) (g : Ground) → InShape s (closing_lines g) → WellTold s (told s (when_ended best g))
  ended_shape None g h = h
  ended_shape (Some c) g h = h

  outcome_shape : (L : Limits) (σ : State) (o : Outcome) → AllByRecursion (Learnable S) σ.learned → Named S L σ o → WellTold s (told s (finding_at σ.best o))
  outcome_shape L σ (ended g) h n = ended_shape σ.best g (closing_shape L σ g h n)
  outcome_shape L σ full h n = tt
  outcome_shape L σ (stepped τ) h n = tt

  does_shape : (j : Job) (c : Call) (a : Answer) (k : Job) → AllByRecursion (Learnable S) (learned_of j) → JobShape j → Does S j c a k → JobShape k
  does_shape j c a k g h (refuses r) = h
  does_shape j c a k g h (changes p q) = tt
  does_shape j c a k g h clears = tt
  does_shape j c a k g h searches = tt
  does_shape j c a k g h (runs p q) = tt
  does_shape j c a k g h (closes {L} {σ} o n) = outcome_shape L σ o g n

  history_shape : {L : Limits} {es : List Entry} {j : Job} → History S L es j → JobShape j
  history_shape opened = tt
  history_shape {j = k} (called {es = fs} {j = j} {c = c} {a = a} h d) =
      does_shape j c a k (held S W (began_with S h) fs j (all_kept S W h)).0 (history_shape h) d

  said_shape : (j : Job) → AllByRecursion (Learnable S) (learned_of j) → JobShape j → (t : Told) → Says m s j t → WellTold s t
  said_shape j g h t (by_run {L} {σ} {g = k} e) = ended_shape σ.best k (closing_shape L σ k g e)
  said_shape j g h t by_verdict = h

  pub shape_told : {L : Limits} {es : List Entry} {j : Job} → History S L es j → (t : Told) → Says m s j t → WellTold s t
  shape_told {es = es} {j = j} h t e = said_shape j (held S W (began_with S h) es j (all_kept S W h)).0 (history_shape h) t e
