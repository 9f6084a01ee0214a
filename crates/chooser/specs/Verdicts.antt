-- Verdicts in memory as those of the rules. Assumes nothing.
use Rattle.std.specs.Prelude.{◌≡◌, List, ℕ, ℤ, Option, Result, IfSome}
use Rattle.std.specs.Option.{option_map}
use Rattle.std.specs.Result.{result_map_both}
use Rattle.rules.specs.declared.refusals.Fault.{Fault}
use Rattle.rules.specs.declared.sheets.Sheet.{Sheet}
use Rattle.rules.specs.Joinings.{sum_at_most, joined_over}
use Rattle.rules.specs.Catalogues.{Meaning}
use Rattle.rules.specs.Choices as choices
use Rattle.rules.specs.Settings as settings
use Rattle.chooser.specs.declared.verdicts.Choice.{Choice}
use Rattle.chooser.specs.declared.verdicts.Seen.{Seen}
use Rattle.chooser.specs.declared.verdicts.Told.{Told}
use Rattle.chooser.specs.declared.verdicts.Told.TheVariants.{Least, Nothing, Full, Unfinished}

-- What is said, in the words of the rules.
abbrev pub told_of : Told → choices.Told
told_of (Least c g) = choices.says_least c.versions.items g.lines.items
told_of (Nothing g) = choices.says_none g.lines.items
told_of (Full best) = choices.says_full (option_map (λ c. c.versions.items) best)
told_of (Unfinished best) = choices.says_unfinished (option_map (λ c. c.versions.items) best)

-- The verdict, in the words of the rules.
abbrev pub seen_in : Seen → settings.Seen
seen_in v = record { says = told_of v.says; steps = v.steps; held = v.held }

-- What is told of a verdict, in the words of the rules.
abbrev pub verdict_in : Result (Option Seen) Fault → Result (Option settings.Seen) Fault
verdict_in told = result_map_both (option_map seen_in) (λ f. f) told

-- So it is with the choice that is named, if one is.
abbrev pub OfNamed : (Choice → Type 0) → Told → Type 0
OfNamed P (Least c g) = P c
OfNamed P (Nothing g) = Unit {0}
OfNamed P (Full best) = IfSome best P
OfNamed P (Unfinished best) = IfSome best P

-- The price of the choice that is named, if one is, is what it costs.
abbrev pub PricesRight : Meaning → Sheet → Told → Type 0
PricesRight m s t = OfNamed (λ c. c.price ≡ choices.price m s c.versions.items) t

-- What versions by place cost by what a catalogue is asked; what it has not is 0.
abbrev pub price_asked : Meaning → Sheet → List ℕ → ℤ
price_asked m s c = joined_over sum_at_most (λ q. settings.amount_in m 0 q (choices.version c q)) s.places

-- The price of the choice that is named, if one is, is that.
abbrev pub PricesAsked : Meaning → Sheet → Told → Type 0
PricesAsked m s t = OfNamed (λ c. c.price ≡ price_asked m s c.versions.items) t
