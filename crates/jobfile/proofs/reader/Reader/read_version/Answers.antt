use Rattle.std.proofs.Common.{get_or, Err, sym, refl, ap, ◌∙◌, ap₂, arith}
use Rattle.std.proofs.lemmas.Result.{err_from_is_err_and}
use Rattle.rules.specs.Openings.{after_tests}
use Rattle.jobfile.specs.declared.fields.Field.TheVariants as field
use Rattle.jobfile.proofs.BodyReads.{body_failed}
use Rattle.jobfile.proofs.Listings.{found_in_version, version_tests_are}
use Rattle.jobfile.proofs.VersionReads.{PassedTests, has_version, job_read, still_holds, still_sound}
use Rattle.jobfile.proofs.reader.Reader.read_version.Goals as goal

pub returns-in_err-check_version : goal.returns-in_err-check_version
returns-in_err-check_version c =
    let r = c.args.self.now in
    let bs = c.args.body.now in
    let p = err_from_is_err_and c.from_residual.result c.from_residual.ensures.1 in
    let by-listing = ap₂ (λ listed has. after_tests (found_in_version r bs (get_or bs 0 0) listed has) (tt {0})) c.places-listed.ensures c.versions-has.ensures in
    body_failed r _ field.Version bs c.from_residual.result _ (p.1 ∙ ap Err p.2) (ap (λ o. after_tests o (tt {0})) (sym (version_tests_are r bs)) ∙ sym by-listing ∙ sym c.check_version.ensures ∙ c.in_err-check_version.was) refl refl

pub invariant_of-self-2 : goal.invariant_of-self-2
invariant_of-self-2 c =
    let r = c.args.self.now in
    let bs = c.args.body.now in
    let by-listing = ap₂ (λ listed has. after_tests (found_in_version r bs (get_or bs 0 0) listed has) (tt {0})) c.places-listed.ensures c.versions-has.ensures in
    let passed : PassedTests r bs c.requires = sym by-listing ∙ sym c.check_version.ensures ∙ c.in_ok-check_version.was in
    let did = c.in-Ok.ensures in
    let has = has_version r bs c.requires passed c.add_version.new.listing c.from.result c.from.ensures did.end did.rows did.added in
    record { within = omega (arith, c.requires.there, c.behind-self.ensures); sound = still_sound r bs c.requires passed _ has; holds = rw c.behind-self.ensures (still_holds r bs c.requires _ has) }

pub returns : goal.returns
returns c =
    let r = c.args.self.now in
    let bs = c.args.body.now in
    let by-listing = ap₂ (λ listed has. after_tests (found_in_version r bs (get_or bs 0 0) listed has) (tt {0})) c.places-listed.ensures c.versions-has.ensures in
    let passed : PassedTests r bs c.requires = sym by-listing ∙ sym c.check_version.ensures ∙ c.in_ok-check_version.was in
    let did = c.in-Ok.ensures in
    let has = has_version r bs c.requires passed c.add_version.new.listing c.from.result c.from.ensures did.end did.rows did.added in
    record { job = job_read r bs c.requires passed _ has; file = refl; section = refl; at = c.behind-self.ensures }
