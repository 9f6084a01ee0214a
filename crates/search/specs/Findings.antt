-- What a search has found, by the rules. Assumes nothing.
use Rattle.std.specs.Prelude.{ℕ, Bool, ◌&&◌, List, take, nat_le}
use Rattle.std.specs.List.{list_all}
use Rattle.rules.specs.Bounds.{most_rows}
use Rattle.rules.specs.Grounds.{Ground}
use Rattle.rules.specs.Search.{next}
use Rattle.rules.specs.Calls as calls
use Rattle.ledger.specs.Model.{held}
use Rattle.ledger.specs.Places.{rising}
use Rattle.search.specs.Closings.{closing_of}
use Rattle.search.specs.Parts as parts
use Rattle.search.specs.States.{chosen_from, job_limits, best_of, state_of}
use Rattle.search.specs.declared.search.Search.{Search}
use Rattle.search.specs.declared.found.Finding.{Finding}
use Rattle.search.specs.declared.found.Finding.TheVariants.{Least, Nothing, Filled, Unfinished}
use Rattle.search.specs.declared.found.Verdict.{Verdict}

-- What was found with so many places.
abbrev pub finding_with : ℕ → Finding → calls.Finding
finding_with places (Least p g) = calls.least (parts.part_of places p) (closing_of g)
finding_with places (Nothing g) = calls.nothing (closing_of g)
finding_with places (Filled best) = calls.filled (best_of places best)
finding_with places (Unfinished best) = calls.unfinished (best_of places best)

-- What was found, the steps and the learned grounds, with so many places.
abbrev pub verdict_with : ℕ → Verdict → calls.Verdict
verdict_with places v = record { finding = finding_with places v.finding; steps = v.steps; held = v.held }

-- What was found in a search.
abbrev pub finding_of : Search → Finding → calls.Finding
finding_of s f = finding_with s.grid.places f

-- What was found in a search, the steps and the learned grounds.
abbrev pub verdict_of : Search → Verdict → calls.Verdict
verdict_of s v = verdict_with s.grid.places v

-- The same with no more lines of the closing ground than there can be rows.
abbrev pub cut_finding : calls.Finding → calls.Finding
cut_finding (calls.least c g) = calls.least c (take most_rows g)
cut_finding (calls.nothing g) = calls.nothing (take most_rows g)
cut_finding (calls.filled best) = calls.filled best
cut_finding (calls.unfinished best) = calls.unfinished best

-- The same of a verdict.
abbrev pub cut_verdict : calls.Verdict → calls.Verdict
cut_verdict v = record { finding = cut_finding v.finding; steps = v.steps; held = v.held }

-- What the rules say of a search.
abbrev pub told : Search → calls.Verdict
told s = calls.verdict (state_of s) (next (chosen_from s) (job_limits s) (state_of s))

-- No line of a ground has a level above this.
abbrev pub levels_to : ℕ → Ground → Bool
levels_to places g = list_all (λ l. nat_le l.level places) g

-- A ground that can have been learned with so many places: its lines come by row and level, and no level is above the places.
abbrev pub shaped : ℕ → Ground → Bool
shaped places g = rising g && levels_to places g

-- Each of some grounds is one.
abbrev pub all_shaped : ℕ → List Ground → Bool
all_shaped places gs = list_all (shaped places) gs

-- Each learned ground of a search is one.
abbrev pub learned_shaped : Search → Bool
learned_shaped s = all_shaped s.grid.places (held s.ledger)
