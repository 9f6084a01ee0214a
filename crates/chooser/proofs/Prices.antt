-- What a catalogue tells of the prices of the choices that a verdict names is what they cost. Assumes nothing.
use Rattle.std.proofs.Common.{◌≡◌, IfSome, List, ℕ, Some, None, Option, sym, ap, ◌∙◌, subst, arith}
use Rattle.std.proofs.Math.Logic.{∥∥₁_map, ∥∥₁_elim}
use Rattle.std.proofs.Math.IntN.{ℤ_set}
use Rattle.std.specs.Option.{option_map}
use Rattle.rules.specs.declared.sheets.Sheet.{Sheet}
use Rattle.rules.specs.Catalogues.{Meaning, SoundMeaning}
use Rattle.rules.specs.Joinings.{sum_at_most}
use Rattle.rules.specs.Sheets.{Limits, limit_of}
use Rattle.rules.specs.Choices.{Choice, TrueAt, price, version}
use Rattle.rules.specs.Openings.{Faultless}
use Rattle.rules.specs.Grounds.{Ground}
use Rattle.rules.specs.Calls.{Job, Verdict, closed}
use Rattle.rules.specs.Histories.{Entry, History, called, opened}
use Rattle.rules.specs.KeptJobs.{faultless}
use Rattle.rules.specs.Settings as settings
use Rattle.rules.specs.Settings.{seen, setting, told}
use Rattle.rules.specs.Promises.{Right, RightThroughout, by_verdict}
use Rattle.rules.proofs.Inside.{amount_inside, joined_same}
use Rattle.rules.proofs.OpeningTests.{none_faultless}
use Rattle.rules.proofs.Rights.{right_throughout}
use Rattle.chooser.specs.Verdicts.{price_asked, PricesAsked, PricesRight, seen_in, told_of}
use Rattle.chooser.specs.declared.verdicts.Choice.{Choice as Named}
use Rattle.chooser.specs.declared.verdicts.Seen.{Seen}
use Rattle.chooser.specs.declared.verdicts.Told.{Told}
use Rattle.chooser.specs.declared.verdicts.Told.TheVariants.{Least, Nothing, Full, Unfinished}
use Rattle.chooser.proofs.Comings.{Came}

module _ (m : Meaning) (s : Sheet) where
  price_inside : Faultless m s → (c : List ℕ) → Choice m s c → price_asked m s c ≡ price m s c
  price_inside f c h =
      joined_same sum_at_most _ _ s.places (λ q a b. let k = h.1 q a b in amount_inside m 0 q (version c q) (omega (arith, f.same_rows)) a (omega (arith, f.same_places)) k.0 k.1)

  price_right : (c : Named) → c.price ≡ price_asked m s c.versions.items → ∥ Faultless m s × Choice m s c.versions.items ∥₁ → c.price ≡ price m s c.versions.items
  price_right c asked there = asked ∙ ∥∥₁_elim there (ℤ_set _ _) (λ h. price_inside h.0 c.versions.items h.1)

  -- where what is said is true
  prices_right : (L : Limits) (t : Told) → ∥ Faultless m s × TrueAt m s L (told_of t) ∥₁ → PricesAsked m s t → PricesRight m s t
  prices_right L (Least c g) h asked = price_right c asked (∥∥₁_map h (λ k. (k.0, k.1.0.0)))
  prices_right L (Nothing g) h asked = tt
  prices_right L (Full None) h asked = tt
  prices_right L (Full (Some c)) h asked = price_right c asked (∥∥₁_map h (λ k. (k.0, k.1.0)))
  prices_right L (Unfinished None) h asked = tt
  prices_right L (Unfinished (Some c)) h asked = price_right c asked (∥∥₁_map h (λ k. (k.0, k.1.0)))

  at_last : {es : List Entry} {j : Job} (h : History (setting m s) (limit_of s) es j) → RightThroughout m s h → Right m s h
  at_last opened r = r
  at_last (called h d) r = r.1

  -- what a closed job says of its last search is true
  said_true : SoundMeaning m → (L : Limits) (gs : List Ground) (v : Verdict) → Came m s (faultless (closed L gs (Some v))) → ∥ Faultless m s × TrueAt m s L (told s v.finding) ∥₁
  said_true w L gs v came =
      ∥∥₁_map came (λ k.
      let f = none_faultless m s k.1.0 in
      (f, (at_last k.1.1 (right_throughout m w s f k.1.1)).saying (told s v.finding) by_verdict))

  -- so the prices that are told with it are right
  pub prices_told : SoundMeaning m → (L : Limits) (gs : List Ground) (v : Option Verdict) → Came m s (faultless (closed L gs v)) → (o : Option Seen) → option_map seen_in o ≡ option_map (seen s) v → IfSome o (λ x. PricesAsked m s x.says) → IfSome o (λ x. PricesRight m s x.says)
  prices_told w L gs v came None same asked = tt
  prices_told w L gs None came (Some x) same asked = absurd (cc)
  prices_told w L gs (Some v) came (Some x) same asked =
      let whole : seen_in x ≡ seen s v = cc in
      let says : told_of x.says ≡ told s v.finding = ap (λ (y : settings.Seen). y.says) whole in
      prices_right L x.says (subst (λ t. ∥ Faultless m s × TrueAt m s L t ∥₁) (sym says) (said_true w L gs v came)) asked
