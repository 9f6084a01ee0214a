use Rattle.std.proofs.Common.{◌+◌, Err, sym, refl, ap, ◌∙◌, ap₂}
use Rattle.std.proofs.lemmas.Result.{err_from_is_err_and}
use Rattle.rules.specs.Openings.{after_tests}
use Rattle.jobfile.specs.declared.fields.Field.TheVariants as field
use Rattle.jobfile.proofs.BodyReads.{body_failed}
use Rattle.jobfile.proofs.LadderReads.{ladder_tests_are, ladder_read}
use Rattle.jobfile.proofs.reader.Reader.read_ladder.Goals as goal

pub returns-in_err-check : goal.returns-in_err-check
returns-in_err-check c =
    let r = c.args.self.now in
    let bs = c.args.body.now in
    let l = c.new-ladder.result in
    let said = c.new-ladder.ensures in
    let p = err_from_is_err_and c.from_residual.result c.from_residual.ensures.1 in
    let tests = ladder_tests_are r bs l.last_row l.place l.count _ l.rungs said.last_row said.place said.count (ap₂ (λ a b. a + b) c.places.ensures c.places-2.ensures) said.rungs in
    body_failed r _ field.Ladder bs c.from_residual.result _ (p.1 ∙ ap Err p.2) (ap (λ o. after_tests o (tt {0})) (sym tests) ∙ sym c.check.ensures ∙ c.in_err-check.was) refl refl

pub returns : goal.returns
returns c =
    let r = c.args.self.now in
    let bs = c.args.body.now in
    let l = c.new-ladder.result in
    let said = c.new-ladder.ensures in
    let tests = ladder_tests_are r bs l.last_row l.place l.count _ l.rungs said.last_row said.place said.count (ap₂ (λ a b. a + b) c.places.ensures c.places-2.ensures) said.rungs in
    let did = c.in-Ok.ensures in
    record {
      job = ladder_read r bs c.add.new.self l.count l.rungs said.count did.rows did.added said.rungs (ap (λ o. after_tests o (tt {0})) (sym tests) ∙ sym c.check.ensures ∙ c.in_ok-check.was);
      file = refl;
      section = refl;
      at = c.behind-self.ensures;
    }
