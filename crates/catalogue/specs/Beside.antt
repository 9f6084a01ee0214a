-- Two catalogues beside one another. Assumes nothing.
use Rattle.std.specs.Prelude.{◌+◌, ◌-◌, min, cond, nat_le}
use Rattle.rules.specs.Bounds.{most_places}
use Rattle.rules.specs.Catalogues.{Meaning}

-- The places of the first meaning and then those of the second, up to the most that there may be; the rows that both have.
abbrev pub besides : Meaning → Meaning → Meaning
besides a b = record {
  places = min (a.places + b.places) most_places;
  rows = min a.rows b.rows;
  versions = λ q. cond (nat_le q a.places) (a.versions q) (b.versions (q - a.places));
  amount = λ row q v. cond (nat_le q a.places) (a.amount row q v) (b.amount row (q - a.places) v);
}
