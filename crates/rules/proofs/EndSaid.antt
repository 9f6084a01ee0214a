-- A search is said to have ended exactly if its last run answered so. Assumes nothing.
use Rattle.std.proofs.Common.{◌≡◌, ℕ, ◌≤◌, List, length, replicate, Some, None, Option, sym, refl, ap, ◌∙◌, arith}
use lib.ListN.{length-replicate}
use Rattle.rules.specs.declared.sheets.Sheet.{Sheet}
use Rattle.rules.specs.Catalogues.{Meaning}
use Rattle.rules.specs.Sheets.{Limits, limit_of}
use Rattle.rules.specs.Choices.{Told}
use Rattle.rules.specs.Grounds.{Ground, Part, Setting}
use Rattle.rules.specs.Search.{Ended, Named, Outcome, State, ended, full, start, stepped}
use Rattle.rules.specs.Calls.{Answer, Call, Does, Finding, Job, Why, changes, clears, closed, closes, filled, finding_at, has_ended, least, nothing, refuses, running, runs, searches, unfinished, when_ended, why}
use Rattle.rules.specs.Histories.{Entry, History, called, last_why, opened, why_after}
use Rattle.rules.specs.Settings.{setting, told}
use Rattle.rules.specs.Promises.{EndSaid, EndTold, HeldReported, Says, by_run, by_verdict}
use Rattle.rules.proofs.Agree.{ended_next, full_next, step_next}

module _ (S : Setting) where
  -- the rules name the end at a state, or something else
  ends : (L : Limits) (τ : State) (o : Outcome) → Named S L τ o → (g : Ground) → Ended S L τ g → o ≡ ended g
  ends L τ (ended h) n g e = sym (ended_next S L τ h n) ∙ ended_next S L τ g e
  ends L τ full n g e = sym (full_next S L τ n) ∙ ended_next S L τ g e
  ends L τ (stepped υ) n g e = sym (step_next S L τ υ n) ∙ ended_next S L τ g e

  why_ended : (L : Limits) (τ : State) (o : Outcome) → Named S L τ o → Some (why o) ≡ Some has_ended → (g : Ground) × Ended S L τ g
  why_ended L τ (ended g) n e = (g, n)
  why_ended L τ full n e = absurd (cc)
  why_ended L τ (stepped υ) n e = absurd (cc)

  -- a search that begins has a place that is set
  not_begun : 1 ≤ S.places → (L : Limits) (gs : List Ground) (g : Ground) → Ended S L (start S L gs) g → ⊥
  not_begun p L gs g e = let l : length (replicate {A = ℕ} S.places 1) ≡ 0 = ap length e.0 in omega (arith, l, length-replicate {A = ℕ} S.places 1, p)

  -- what was found, beside the answer of the last run
  abbrev FoundBy : Finding → Option Why → Type 0
  FoundBy (least c g) w = w ≡ Some has_ended
  FoundBy (nothing g) w = w ≡ Some has_ended
  FoundBy (filled best) w = w ≡ Some has_ended → ⊥
  FoundBy (unfinished best) w = w ≡ Some has_ended → ⊥

  -- how a job stands to the answer of the last run
  abbrev EndKept : Job → Option Why → Type 0
  EndKept (closed L gs None) w = Unit {0}
  EndKept (closed L gs (Some v)) w = FoundBy v.finding w
  EndKept (running L σ) w = ((g : Ground) → Ended S L σ g → w ≡ Some has_ended) × (w ≡ Some has_ended → (g : Ground) × Ended S L σ g)

  found_ended : (best : Option Part) (g : Ground) (w : Option Why) → w ≡ Some has_ended → FoundBy (when_ended best g) w
  found_ended None g w e = e
  found_ended (Some c) g w e = e

  found_by : (L : Limits) (σ : State) (o : Outcome) (w : Option Why) → Named S L σ o → EndKept (running L σ) w → FoundBy (finding_at σ.best o) w
  found_by L σ (ended g) w n h = found_ended σ.best g w (h.0 g n)
  found_by L σ full w n h = λ e. let k = h.1 e in let z : full ≡ ended k.0 = ends L σ full n k.0 k.1 in absurd (cc)
  found_by L σ (stepped τ) w n h = λ e. let k = h.1 e in let z : stepped τ ≡ ended k.0 = ends L σ (stepped τ) n k.0 k.1 in absurd (cc)

  keeps : 1 ≤ S.places → (j : Job) (c : Call) (a : Answer) (k : Job) (w : Option Why) → EndKept j w → Does S j c a k → EndKept k (why_after a c w)
  keeps p j c a k w h (refuses r) = h
  keeps p j c a k w h (changes u v) = tt
  keeps p j c a k w h clears = tt
  keeps p j c a k w h (searches {L} {gs}) = (λ g e. absurd (not_begun p L gs g e), λ e. absurd (cc))
  keeps p j c a k w h (runs {L} {σ} {τ} {reason = reason} u r) = (
    λ g e. ap Some (r.reason_is ∙ ap why (ends L τ r.outcome r.named g e)),
    λ e. why_ended L τ r.outcome r.named (sym (ap Some r.reason_is) ∙ e),
  )
  keeps p j c a k w h (closes {L} {σ} o n) = found_by L σ o w n h

  end_kept : 1 ≤ S.places → {L : Limits} {es : List Entry} {j : Job} → History S L es j → EndKept j (last_why es)
  end_kept p opened = tt
  end_kept p {j = k} (called {es = es} {j = j} {c = c} {a = a} h d) = keeps p j c a k (last_why es) (end_kept p h) d

  does_held : {j : Job} {c : Call} {a : Answer} {k : Job} → HeldReported j → Does S j c a k → HeldReported k
  does_held h (refuses r) = h
  does_held h (changes u v) = tt
  does_held h clears = tt
  does_held h searches = tt
  does_held h (runs u r) = tt
  does_held h (closes o n) = refl

  -- the grounds that a verdict reports
  pub held_reported : {L : Limits} {es : List Entry} {j : Job} → History S L es j → HeldReported j
  held_reported opened = tt
  held_reported (called h d) = does_held (held_reported h) d

module _ (m : Meaning) (s : Sheet) where
  told_by : (x : Finding) (w : Option Why) → FoundBy (setting m s) x w → EndSaid (told s x) w
  told_by (least c g) w h = h
  told_by (nothing g) w h = h
  told_by (filled best) w h = h
  told_by (unfinished best) w h = h

  said : (j : Job) (w : Option Why) → EndKept (setting m s) j w → (t : Told) → Says m s j t → EndSaid t w
  said j w h t (by_run {L} {σ} {g = g} e) = told_by (when_ended σ.best g) w (found_ended (setting m s) σ.best g w (h.0 g e))
  said j w h t (by_verdict {v = v}) = told_by v.finding w h

  told_end : (j : Job) (w : Option Why) → EndKept (setting m s) j w → EndTold m s j w
  told_end (closed L gs v) w h = tt
  told_end (running L σ) w h = λ e. let k = h.1 e in (told s (when_ended σ.best k.0), by_run k.1)

  pub end_said : 1 ≤ s.places → {es : List Entry} {j : Job} → History (setting m s) (limit_of s) es j → (t : Told) → Says m s j t → EndSaid t (last_why es)
  end_said p {es} {j} h = said j (last_why es) (end_kept (setting m s) p h)

  pub end_told : 1 ≤ s.places → {es : List Entry} {j : Job} → History (setting m s) (limit_of s) es j → EndTold m s j (last_why es)
  end_told p {es} {j} h = told_end j (last_why es) (end_kept (setting m s) p h)
