-- What is promised at every time of a history. Assumes nothing.
use Rattle.std.proofs.Common.{◌≡◌, ℕ, ◌*◌, ◌<◌, List, Some, None, subst}
use Rattle.std.proofs.ByRecursion.{All-weaker}
use Rattle.rules.specs.declared.sheets.Sheet.{Sheet}
use Rattle.rules.specs.Catalogues.{Meaning, SoundMeaning}
use Rattle.rules.specs.Sheets.{Limits, limit_of, order_of}
use Rattle.rules.specs.Choices.{Told, TrueAt, part_choices}
use Rattle.rules.specs.Openings.{Faultless}
use Rattle.rules.specs.Bounds.{greatest_amount}
use Rattle.rules.specs.Grounds.{Ground, Learnable, Setting, SoundSetting, WellFormed}
use Rattle.rules.proofs.Shapes.{learnable_shaped}
use Rattle.rules.proofs.Invariant.{Invariant}
use Rattle.rules.specs.Search.{ended}
use Rattle.rules.specs.Calls.{Finding, Job, closed, filled, least, nothing, running, unfinished, when_ended}
use Rattle.rules.specs.Histories.{Entry, History, began_with, called, learned_of, limits_of, opened, steps_run}
use Rattle.rules.specs.Settings.{TrueGround, setting, told}
use Rattle.rules.specs.Promises.{FewSteps, Right, RightThroughout, Says, StepsNamed, by_run, by_verdict}
use Rattle.rules.specs.Theorems.{GroundLaw, PromiseLaw}
use Rattle.rules.proofs.Learning.{learnable_sound}
use Rattle.rules.proofs.CallHistories.{FoundRight, Counted, Kept, invariant, counted, found_right, all_kept, held, all_limits, last_budget}
use Rattle.rules.proofs.ByPlace.{none_by_place, cheapest_by_place, closes_by_place, closes_under, sound_setting, setting_versions, amounts_near, true_by_place, best_by_place_keeps}
use Rattle.rules.proofs.Counts.{counts_agree}
use Rattle.rules.proofs.ClosingShapes.{shape_told}
use Rattle.rules.proofs.EndSaid.{end_said, end_told, held_reported}

module _ (m : Meaning) (w : SoundMeaning m) (s : Sheet) (f : Faultless m s) where
  abbrev S : Setting
  S = setting m s

  abbrev W : SoundSetting S
  W = sound_setting m w s f

  -- what was found is true by place
  found_true : (L : Limits) (x : Finding) → FoundRight S L x → TrueAt m s L (told s x)
  found_true L (least c g) h = (cheapest_by_place m w s f L c h.0, closes_under m w s f L c g h.0.0 h.1)
  found_true L (nothing g) h = (none_by_place m w s f L h.0, closes_by_place m w s f L None g h.1)
  found_true L (filled best) h = best_by_place_keeps m w s f L best h
  found_true L (unfinished best) h = best_by_place_keeps m w s f L best h

  says_true : (began : List Ground) (es : List Entry) (j : Job) → Kept S began es j → (t : Told) → Says m s j t → TrueAt m s (limits_of j) t
  says_true b es j h t (by_run {L} {σ} {g = g} e) =
      found_true L (when_ended σ.best g) (found_right S W L σ (ended g) (invariant S W L b es σ h) e)
  says_true b es j h t (by_verdict {L} {gs} {v}) = found_true L v.finding h.2.1

  few : (es : List Entry) (k : ℕ) → Counted S es k → (k ≡ steps_run es) × (k < 2 * part_choices m (order_of s))
  few es k h = (h.0, subst (λ x. k < 2 * x) (counts_agree m S (order_of s) f.order.0 (setting_versions m w s f)) h.1)

  steps_right : (began : List Ground) (es : List Entry) (j : Job) → Kept S began es j → FewSteps m s es j × StepsNamed m s began j
  steps_right b es (closed L gs None) h = (tt, tt)
  steps_right b es (closed L gs (Some v)) h = (few es v.steps h.2.0, tt)
  steps_right b es (running L σ) h = (few es σ.steps (counted S W L b es σ h), ((let i : Invariant S W L σ = invariant S W L b es σ h in i.proper), h.2))

  right : {es : List Entry} {j : Job} (h : History S (limit_of s) es j) → Right m s h
  right {es} {j} h =
      let b = began_with S h in
      let k = all_kept S W h in
      let n = steps_right b es j k in
      let g = held S W b es j k in
      record {
        limits = all_limits S h;
        saying = says_true b es j k;
        shape = shape_told m s W (amounts_near m w s f) h;
        end_said = end_said m s f.some_place h;
        end_told = end_told m s f.some_place h;
        few_steps = n.0;
        held = held_reported S h;
        steps_named = n.1;
        budget = last_budget S h;
        formed = All-weaker (Learnable S) (WellFormed S) (λ x l. (learnable_shaped S W greatest_amount (amounts_near m w s f) l).0) (learned_of j) g.0;
        grounds = All-weaker (Learnable S) (TrueGround m s) (λ x l. true_by_place m w s f x (learnable_sound S W l)) (learned_of j) g.0;
        space = g.1;
      }

  pub right_throughout : {es : List Entry} {j : Job} (h : History S (limit_of s) es j) → RightThroughout m s h
  right_throughout opened = right opened
  right_throughout (called h d) = (right_throughout h, right (called h d))

pub promise_law : PromiseLaw
promise_law m w s f es j h = right_throughout m w s f h

pub ground_law : GroundLaw
ground_law m w s f g l = true_by_place m w s f g (learnable_sound (setting m s) (sound_setting m w s f) l)
