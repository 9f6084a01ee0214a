-- What a draft holds. Assumes nothing.
use Rattle.rules.specs.Grounds.{Ground}
use Rattle.ledger.specs.declared.draft.Draft.{Draft}

-- The lines of a draft.
abbrev pub drafted : Draft → Ground
drafted d = d.lines.items
