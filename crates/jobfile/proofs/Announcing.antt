-- What a tag tells of the field that it announces. Assumes nothing.
use Rattle.std.proofs.Common.{◌≡◌, ℕ, ◌⊎◌, Bool, true, false, cond, ◌&&◌, eqb, ltb, Some, None, Option, sym, refl, subst, inl, inr}
use Rattle.std.proofs.lemmas.Bool.{and_parts, eqb-true}
use Rattle.jobfile.specs.declared.fields.Field.{Field}
use Rattle.jobfile.specs.declared.fields.Field.TheVariants as field
use Rattle.jobfile.specs.declared.fields.Section.{Section}
use Rattle.jobfile.specs.declared.fields.Section.TheVariants as section
use Rattle.jobfile.specs.Writing.{tag_of}
use Rattle.jobfile.specs.Reading.{Announced, announced_with, early, next}

module _ (rows m tag : ℕ) where
  -- the tag is the field's, and no field but the order's alters whether the order has come
  abbrev pub As : Section → Announced → Type 0
  As c p = (tag ≡ tag_of p.field) × ((p.field ≡ field.Order) ⊎ (early p.section ≡ early c))

  one_more : (b : Bool) (c : Section) (f : Field) (d : Section) (o : Option Announced) (p : Announced) → (b ≡ true → As c (record { field = f; section = d })) → (o ≡ Some p → As c p) → cond b (next f d) o ≡ Some p → As c p
  one_more true c f d o p k g e = let same : record { field = f; section = d } ≡ p = cc in subst (As c) same (k refl)
  one_more false c f d o p k g e = g e

  no_more : (c : Section) (p : Announced) → None ≡ Some p → As c p
  no_more c p e = absurd (cc)

  call_as : (c : Section) (p : Announced) → early c ≡ false → cond (eqb tag 6) (next field.Call section.Calls) None ≡ Some p → As c p
  call_as c p late = one_more (eqb tag 6) c field.Call section.Calls None p (λ h. (eqb-true tag 6 h, inr (sym late))) (no_more c p)

  ladder_as : (c : Section) (p : Announced) → early c ≡ false → cond (eqb tag 5) (next field.Ladder section.Ladders) (cond (eqb tag 6) (next field.Call section.Calls) None) ≡ Some p → As c p
  ladder_as c p late = one_more (eqb tag 5) c field.Ladder section.Ladders _ p (λ h. (eqb-true tag 5 h, inr (sym late))) (call_as c p late)

  pub announced_as : (c : Section) (p : Announced) → announced_with rows m c tag ≡ Some p → As c p
  announced_as section.Start p = one_more (eqb tag 1) section.Start field.Sheet section.Rows None p (λ h. (eqb-true tag 1 h, inr refl)) (no_more section.Start p)
  announced_as section.Rows p =
      one_more (eqb tag 2 && ltb rows m) section.Rows field.Row section.Rows _ p (λ h. (eqb-true tag 2 (and_parts _ _ h).0, inr refl))
      (one_more (eqb tag 3 && eqb rows m) section.Rows field.Order section.Versions None p (λ h. (eqb-true tag 3 (and_parts _ _ h).0, inl refl)) (no_more section.Rows p))
  announced_as section.Versions p = one_more (eqb tag 4) section.Versions field.Version section.Versions _ p (λ h. (eqb-true tag 4 h, inr refl)) (ladder_as section.Versions p refl)
  announced_as section.Ladders p = ladder_as section.Ladders p refl
  announced_as section.Calls p = call_as section.Calls p refl
