use Rattle.std.proofs.Common.{ℕ, ◌≤◌, List, length, Some, None, ◌∙◌, arith, length-take, length-drop}
use Rattle.search.specs.Parts.{part_of, versions_of}
use Rattle.search.specs.declared.part.Part.{Part}
use Rattle.chooser.proofs.FirstPlaces.{version_found}
use Rattle.chooser.proofs.verdicts.places.version_in.Goals as goal

short : (order : List ℕ) (part : Part) → length (part_of (length order) part) ≤ length order
short order part =
    omega (arith, length-drop part.opened (versions_of (length order) part), length-take (length order) part.versions)

pub returns-in-Some : goal.returns-in-Some
returns-in-Some c =
    let order = c.args.order.now in
    let part = c.args.part.now in
    c.version_at.ensures ∙ version_found order (part_of (length order) part) c.args.place (short order part) (Some c.in-Some.index) c.in-Some.ensures

pub returns-in-None : goal.returns-in-None
returns-in-None c =
    let order = c.args.order.now in
    let part = c.args.part.now in
    version_found order (part_of (length order) part) c.args.place (short order part) None c.in-None.ensures
