use Rattle.std.proofs.Common.{◌≡◌, ◌<◌, [], get_or, sym, ◌∙◌, arith}
use Rattle.std.proofs.lemmas.Bool.{lt-leb}
use Rattle.rules.specs.Grounds.{open_places}
use Rattle.ledger.specs.Tables.{lowest_level}
use Rattle.search.specs.Parts.{versions_of}
use Rattle.search.specs.States.{chosen_from, force, grounds}
use Rattle.search.specs.Trials.{tried}
use Rattle.search.proofs.Parts.{whole_of}
use Rattle.search.proofs.Aboves.{opened_is}
use Rattle.search.proofs.Standing.{lowest_falls}
use Rattle.search.proofs.search.trial.Trial.ground_stands.Goals as goal

pub returns-else-opened-lowest_level : goal.returns-else-opened-lowest_level
returns-else-opened-lowest_level c =
    let t = c.args.self.now in
    let s = t.search.now in
    let g = get_or (grounds s) c.args.index [] in
    let opened : open_places (chosen_from s) (tried t) ≡ t.part.opened = opened_is (chosen_from s) (versions_of s.grid.places t.part) (whole_of s t.part) t.part.opened (omega (arith, whole_of s t.part, t.within)) in
    let low : lowest_level g < open_places (chosen_from s) (tried t) = omega (arith, c.lowest_level.ensures, c.opened.ensures, opened) in
    lt-leb c.opened.result c.lowest_level.result (omega arith)
    ∙ sym (lowest_falls (chosen_from s) (force s) (tried t) g (omega (arith, opened, t.within, s.grid.few_places)) low)
