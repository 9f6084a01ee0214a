-- What comes next in a search, by the rules. Assumes nothing.
use Rattle.std.specs.Prelude.{◌≡◌, ◌+◌, ◌<◌, ◌≤◌, true, [], ◌∷◌, slice_index_or, unsigned_abs}
use Rattle.rules.specs.Bounds.{most_places}
use Rattle.rules.specs.Grounds.{part_price}
use Rattle.rules.specs.Search.{State, at_part, with_ground, with_best, room, Outcome, ended, full, stepped}
use Rattle.ledger.specs.Lines.{reach}
use Rattle.ledger.specs.Model.{held}
use Rattle.ledger.specs.Drafted.{drafted}
use Rattle.ledger.specs.declared.draft.Draft.{Draft}
use Rattle.search.specs.States.{chosen_from, job_limits, grounds, part_in, state_of, above}
use Rattle.search.specs.declared.search.Search.{Search}
use Rattle.search.specs.declared.next.Step.{Step}
use Rattle.search.specs.declared.next.Step.TheVariants.{Set, Learn, Best}
use Rattle.search.specs.declared.next.Next.{Next}
use Rattle.search.specs.declared.next.Next.TheVariants.{Ended, Full, Makes}

-- The state after a step, with the ground that is drafted.
abbrev pub after : Search → Draft → Step → State
after s d (Set pick) = at_part (state_of s) (pick.version ∷ above s pick.index)
after s d (Learn index) = with_ground (state_of s) (above s index) (drafted d)
after s d (Best price) = with_best (chosen_from s) (job_limits s) (state_of s)

-- What comes next.
abbrev pub outcome_of : Search → Draft → Next → Outcome
outcome_of s d (Ended g) = ended (slice_index_or (grounds s) g [])
outcome_of s d Full = full
outcome_of s d (Makes step) = stepped (after s d step)

-- A step that the tables have space for; the price of the best is what it costs.
abbrev pub ReadyStep : Search → Draft → Step → Type 0
ReadyStep s d (Set pick) = (pick.index < s.grid.places) × (s.part.opened ≤ pick.index + 1)
ReadyStep s d (Learn index) = (index < s.grid.places) × (s.part.opened ≤ index + 1) × (room (held s.ledger) (drafted d) ≡ true)
ReadyStep s d (Best price) = (unsigned_abs price ≤ reach most_places) × (price ≡ part_price (chosen_from s) (part_in s s.part))

-- So it is with what comes next, if it is a step.
abbrev pub Ready : Search → Draft → Next → Type 0
Ready s d (Ended g) = Unit {0}
Ready s d Full = Unit {0}
Ready s d (Makes step) = ReadyStep s d step
