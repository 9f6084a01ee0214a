use Rattle.std.proofs.Common.{suc, ◌-◌, ◌≤◌}
use Rattle.std.specs.Fmt.{HasWritten, IsPlainFormatter}
use Rattle.shown.specs.Texts.{texts_below, version_text}
use Rattle.shown.proofs.catalogues.PlaceTextDisplay.fmt.Given as goal

abbrev pub invariant-loop-version : goal.invariant-loop-version
invariant-loop-version g l =
    (1 ≤ l.version) × (l.version ≤ suc l.version-end) ×
    (IsPlainFormatter l.initial.f →
    HasWritten g.W.Write.write_str_gives l.initial.f (texts_below (λ k. version_text (g.C.Catalogue.meaning l.self.catalogue.now) l.place (suc k)) (l.version - 1)) l.f)
