-- A grid as a setting of the rules. Assumes nothing.
use Rattle.std.specs.Prelude.{slice_index_or}
use Rattle.rules.specs.declared.kinds.Kind.TheVariants.{SumAtMost}
use Rattle.rules.specs.Joinings.{joining}
use Rattle.rules.specs.Grounds.{Setting}
use Rattle.search.specs.Tables.{count_at, amount_at}
use Rattle.search.specs.declared.grid.Grid.{Grid}

-- What is chosen from, as the rules see it.
abbrev pub setting : Grid → Setting
setting g =
    record {
      places = g.places;
      last_row = g.last_row;
      joining = λ r. joining (slice_index_or g.kinds r SumAtMost);
      versions = count_at g.positions;
      amount = amount_at g.positions;
    }
