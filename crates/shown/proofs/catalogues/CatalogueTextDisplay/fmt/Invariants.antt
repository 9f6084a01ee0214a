use Rattle.std.proofs.Common.{suc, ◌-◌, ◌≤◌}
use Rattle.std.specs.Fmt.{HasWritten, IsPlainFormatter}
use Rattle.shown.specs.Texts.{texts_below, place_text}
use Rattle.shown.proofs.catalogues.CatalogueTextDisplay.fmt.Given as goal

abbrev pub invariant-loop-place : goal.invariant-loop-place
invariant-loop-place g l =
    (1 ≤ l.place) × (l.place ≤ suc l.place-end) ×
    (IsPlainFormatter l.initial.f →
    HasWritten g.W.Write.write_str_gives l.initial.f (texts_below (λ k. place_text (g.C.Catalogue.meaning l.self.0.now) (suc k)) (l.place - 1)) l.f)
