-- A line put into a draft at its place. Assumes nothing.
use Rattle.std.proofs.Common.{◌≡◌, ◌≤◌, true, [], ◌∷◌, length, pos, ap, ◌∙◌}
use Rattle.rules.specs.declared.lines.Line.{Line}
use Rattle.rules.specs.Joinings.{Joining}
use Rattle.rules.specs.Grounds.{Setting, Ground, with_line}
use Rattle.rules.proofs.Shapes.{ordered_with_lines}
use Rattle.rules.proofs.StandingLines.{with_line_all}
use Rattle.ledger.specs.Lines.{Near, AllNear}
use Rattle.ledger.specs.Places.{most_drafted, rising}
use Rattle.ledger.proofs.Nears.{near_listed, listed_near}
use Rattle.ledger.proofs.FewLines.{ordered_since, since_ordered, few_lines}

-- A setting in which every row has this joining.
abbrev pub of_joining : Joining → Setting
of_joining J = record { places = 0; last_row = 0; joining = λ r. J; versions = λ p. 0; amount = λ r p v. pos 0 }

-- a ground with one line more
module _ (S : Setting) (a : Line) (g h : Ground) (new : Near a) (all : AllNear g) (order : rising g ≡ true) (is : h ≡ with_line S a g) where
  pub more_near : AllNear h
  more_near = listed_near h (rw is (with_line_all S Near a g new (near_listed g all)))

  pub more_rising : rising h ≡ true
  more_rising = ap rising is ∙ since_ordered (with_line S a g) (ordered_with_lines S (a ∷ []) g (ordered_since g order))

  pub more_few : length h ≤ most_drafted
  more_few = few_lines h (ordered_since h more_rising) (near_listed h more_near)
