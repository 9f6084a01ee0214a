use Rattle.std.proofs.Common.{◌≡◌, ◌++◌, ◌∙◌, codes, decimal, flat_map, subst, w64, to_z, of_z, arith}
use Rattle.std.specs.Fmt.{signed_decimal}
use Rattle.std.proofs.lemmas.Int.{ints}
use Rattle.report.specs.Writing.{Puts}
use Rattle.report.proofs.Putting.{both_put}
use Rattle.report.proofs.page.Page.put_choice.Goals as goal

pub returns : goal.returns
returns c = λ m s priced.
    let choice = c.args.choice.now in
    let read : to_z w64 (of_z w64 choice.price) ≡ choice.price = omega (arith, ints) in
    subst (λ z. Puts c.args.self.now (codes " " ++ signed_decimal z ++ flat_map (λ v. codes " " ++ decimal v) choice.versions.items) c.put_versions.new.self) (read ∙ priced)
    (subst (λ vs. Puts c.args.self.now (codes " " ++ signed_decimal (to_z w64 (of_z w64 choice.price)) ++ flat_map (λ v. codes " " ++ decimal v) vs) c.put_versions.new.self) c.as_slice.ensures.value
    (both_put c.put_number.ensures c.put_versions.ensures))
