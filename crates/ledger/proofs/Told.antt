-- What the answers of a draft and a ledger tell. Assumes nothing.
use Rattle.std.proofs.Common.{◌≡◌, Bool, true, false, ◌&&◌, if◌then◌else◌, List, Result, Ok, Err, is_ok, refl}
use Rattle.rules.specs.declared.lines.Line.{Line}
use Rattle.rules.specs.Grounds.{Ground}
use Rattle.rules.specs.Search.{room}
use Rattle.ledger.specs.Lines.{near, all_near}
use Rattle.ledger.specs.Model.{takes}
use Rattle.ledger.specs.Answers.{put_answer, push_answer}

one_test : {E : Type 0} (t : Bool) (e : E) → is_ok (if t then Ok (tt {0}) else Err e) ≡ t
one_test true e = refl
one_test false e = refl

-- a line is put in exactly where the tables hold it
pub put_told : (l : Line) → is_ok (put_answer l) ≡ near l
put_told l = one_test (near l) _

two_tests : {E : Type 0} (t : Bool) (r : Result (Unit {0}) E) (u : Bool) (e : E) → is_ok r ≡ u → is_ok (if t then r else Err e) ≡ (t && u)
two_tests true r u e h = h
two_tests false r u e h = refl

-- a ground is put in exactly where it is taken
pub push_told : (learned : List Ground) (g : Ground) → is_ok (push_answer learned g) ≡ takes learned g
push_told learned g = two_tests (room learned g) _ (all_near g) _ (one_test (all_near g) _)
