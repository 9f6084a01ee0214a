use Rattle.std.proofs.Common.{◌≡◌, ◌-◌, ◌≤◌, suc}
use Rattle.arrayvec.specs.ArrayVec.{array_vec_len}
use Rattle.rules.specs.Sheets.{order_of}
use Rattle.rules.specs.Settings.{versions_to}
use Rattle.search.specs.Parts.{part_of}
use Rattle.chooser.proofs.verdicts.places.by_place.Given as goal

abbrev pub invariant-loop-place : goal.invariant-loop-place
invariant-loop-place l =
    (1 ≤ l.place) × (l.place ≤ suc l.sheet.places) × (array_vec_len l.versions ≡ l.place - 1)
    × (l.versions.items ≡ versions_to (order_of l.sheet) (part_of l.sheet.places l.part) (l.place - 1))
