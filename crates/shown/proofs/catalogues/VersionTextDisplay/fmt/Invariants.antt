use Rattle.std.specs.Fmt.{HasWritten, IsPlainFormatter}
use Rattle.rules.specs.Catalogues.{amount_told}
use Rattle.shown.specs.Texts.{amount_text, texts_below}
use Rattle.shown.proofs.catalogues.VersionTextDisplay.fmt.Given as goal

abbrev pub invariant-loop-row : goal.invariant-loop-row
invariant-loop-row g l =
    IsPlainFormatter l.initial.f →
    HasWritten g.W.Write.write_str_gives l.initial.f (texts_below (λ row. amount_text (amount_told (g.C.Catalogue.meaning l.self.catalogue.now) row l.place l.version)) l.row) l.f
