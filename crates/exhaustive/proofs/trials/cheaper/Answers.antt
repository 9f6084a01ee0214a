use Rattle.std.proofs.Common.{◌≡◌, Bool, true, false, if◌then◌else◌, Some, refl, ap, ◌∙◌, rules}
use Rattle.std.specs.Ordering.{is_lt}
use Rattle.std.specs.declared.cmp.Ordering.TheVariants.{Less, Equal, Greater}
use Rattle.std.proofs.lemmas.Fn.{always_returns_same}
use Rattle.exhaustive.specs.declared.found.Found.{Found}
use Rattle.exhaustive.proofs.trials.cheaper.Goals as goal

-- the second is taken where it is less
second_less : (less more : Bool) (f g : Found) → Some (if is_lt (if less then Less else (if more then Greater else Equal)) then g else f) ≡ (if less then Some g else Some f)
second_less true more f g = refl
second_less false true f g = refl
second_less false false f g = refl

pub returns-in-Some-Some : goal.returns-in-Some-Some
returns-in-Some-Some c =
    let picked = c.min_by_key.ensures (λ f. f.price) (always_returns_same _ _ _ (search rules)) in
    rw c.in-Some-Some.is-0 (rw c.in-Some-Some.is-1 (ap Some picked ∙ second_less _ _ c.in-Some-Some.first c.in-Some-Some.second))
