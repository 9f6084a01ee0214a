-- Kinds and their numbers. Assumes nothing.
use Rattle.std.proofs.Common.{◌≡◌, ℕ, true, eqb, is_some, sym, refl, ap, ◌∙◌, inl, inr}
use Rattle.std.proofs.lemmas.Bool.{cases_eq, ne_eqb, cond-false}
use Rattle.rules.specs.declared.kinds.Kind.{Kind}
use Rattle.rules.specs.declared.kinds.Kind.TheVariants.{SumAtMost, SumAtLeast, GreatestAtMost}
use Rattle.rules.specs.Joinings.{kind_number, kind_numbered}
use Rattle.rules.proofs.Bools.{clash}

-- a number for which a kind is found is the number of one
pub kind_there : (n : ℕ) → is_some (kind_numbered n) ≡ true → (k : Kind) × (kind_number k ≡ n)
kind_there n h =
    elim (cases_eq n 1) [
      | inl a ↦ (SumAtMost, sym a)
      | inr a ↦ elim (cases_eq n 2) [
        | inl b ↦ (SumAtLeast, sym b)
        | inr b ↦ elim (cases_eq n 3) [
          | inl c ↦ (GreatestAtMost, sym c)
          | inr c ↦ clash h (ap is_some (cond-false (eqb n 1) _ _ (ne_eqb n 1 a) ∙ cond-false (eqb n 2) _ _ (ne_eqb n 2 b) ∙ cond-false (eqb n 3) _ _ (ne_eqb n 3 c)))
        ]
      ]
    ]

-- and the other way round
pub there_kind : (k : Kind) → is_some (kind_numbered (kind_number k)) ≡ true
there_kind SumAtMost = refl
there_kind SumAtLeast = refl
there_kind GreatestAtMost = refl
