use Rattle.std.proofs.Common.{sym, subst}
use Rattle.chooser.specs.Verdicts.{PricesRight, told_of}
use Rattle.report.specs.Reports.{told_text}
use Rattle.report.specs.Writing.{Puts}
use Rattle.report.proofs.Putting.{both_put}
use Rattle.report.proofs.page.Page.put_told.Goals as goal

pub returns-in-Least : goal.returns-in-Least
returns-in-Least c = λ m s.
    subst (λ t. PricesRight m s t → Puts c.args.self.now (told_text m s (told_of t)) c.put_choice.new.self) (sym c.in-Least.is)
    (λ priced. both_put c.put.ensures (c.put_choice.ensures m s priced))

pub returns-in-Full : goal.returns-in-Full
returns-in-Full c = λ m s.
    subst (λ t. PricesRight m s t → Puts c.args.self.now (told_text m s (told_of t)) c.put_best.new.self) (sym c.in-Full.is)
    (λ priced. both_put c.put-in-Full.ensures (c.put_best.ensures m s priced))

pub returns-in-Unfinished : goal.returns-in-Unfinished
returns-in-Unfinished c = λ m s.
    subst (λ t. PricesRight m s t → Puts c.args.self.now (told_text m s (told_of t)) c.put_best-in-Unfinished.new.self) (sym c.in-Unfinished.is)
    (λ priced. both_put c.put-in-Unfinished.ensures (c.put_best-in-Unfinished.ensures m s priced))
