use Rattle.std.proofs.Common.{◌≡◌, ◌+◌, ◌-◌, sym, ◌∙◌, arith}
use Rattle.exhaustive.specs.Trials.{guarded}
use Rattle.exhaustive.proofs.Versions.{next_more, tried_more}
use Rattle.exhaustive.proofs.trial.Trial.+try_last.Goals as goal

pub loop-version-preserved : goal.loop-version-preserved
loop-version-preserved g t c =
    let s = c.args.self.now in
    let m = guarded (g.C.Catalogue.meaning s.catalogue.now) in
    let more = next_more m s.sheet.now c.args.left s.versions c.loop-version.version (omega arith) c.loop-version.best c.loop-version.invariant.2 in
    let at : c.loop-version.version + 1 - 1 ≡ c.loop-version.version = omega arith in
    (omega arith, omega arith, rw at (c.cheaper-best.ensures ∙ rw c.try_last.ensures (rw c.with.ensures.catalogue (rw c.with.ensures.sheet (rw c.with.ensures.versions more)))))

pub returns-else-left-eq0 : goal.returns-else-left-eq0
returns-else-left-eq0 g t c =
    let s = c.args.self.now in
    let all : c.loop-version.version - 1 ≡ c.versions_in-version-end.result = omega arith in
    let more = tried_more (guarded (g.C.Catalogue.meaning s.catalogue.now)) s.sheet.now c.args.left s.versions (omega arith) (omega arith) in
    cc

pub returns-else-left-eq0-2 : goal.returns-else-left-eq0-2
returns-else-left-eq0-2 g t c =
    let s = c.args.self.now in
    let m = guarded (g.C.Catalogue.meaning s.catalogue.now) in
    let more = next_more m s.sheet.now c.args.left s.versions c.loop-version.version (omega arith) c.loop-version.best c.loop-version.invariant.2 in
    let all : c.loop-version.version ≡ c.versions_in-version-end.result = omega arith in
    let last = tried_more m s.sheet.now c.args.left s.versions (omega arith) (omega arith) in
    c.cheaper-best.ensures ∙ rw c.try_last.ensures (rw c.with.ensures.catalogue (rw c.with.ensures.sheet (rw c.with.ensures.versions (more ∙ rw all (rw c.versions_in-version-end.ensures (sym last))))))
