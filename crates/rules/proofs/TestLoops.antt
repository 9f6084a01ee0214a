-- Tests made one after the other, and in a loop. Assumes nothing.
use Rattle.std.proofs.Common.{◌≡◌, ℕ, zero, suc, ◌≤◌, List, [], ◌∷◌, ◌++◌, Some, None, Ok, Err, Option, sym, refl, ap, ◌∙◌, subst, inl, inr, arith}
use Rattle.std.proofs.lemmas.Bool.{cases_lt}
use Rattle.rules.specs.declared.refusals.Fault.{Fault}
use Rattle.rules.specs.Openings.{each_to, first_fault, after_tests, checked}

-- what tests come to, after tests that found nothing and before any others
pub first_after : (xs ys : List (Option Fault)) → first_fault xs ≡ None → first_fault (xs ++ ys) ≡ first_fault ys
first_after [] ys h = refl
first_after (None ∷ xs) ys h = first_after xs ys h
first_after (Some f ∷ xs) ys h = absurd (cc)

pub first_before : (xs ys : List (Option Fault)) (f : Fault) → first_fault xs ≡ Some f → first_fault (xs ++ ys) ≡ Some f
first_before [] ys f h = absurd (cc)
first_before (None ∷ xs) ys f h = first_before xs ys f h
first_before (Some g ∷ xs) ys f h = h

-- an answer tells what the tests found
pub passed_tests : {X : Type 0} (o : Option Fault) (x y : X) → after_tests o x ≡ Ok y → (o ≡ None) × (x ≡ y)
passed_tests None x y e = let same : x ≡ y = cc in (refl, same)
passed_tests (Some f) x y e = absurd (cc)

pub failed_tests : {X : Type 0} (o : Option Fault) (x : X) (f : Fault) → after_tests o x ≡ Err f → o ≡ Some f
failed_tests None x f e = absurd (cc)
failed_tests (Some g) x f e = let same : g ≡ f = cc in ap Some same

-- the tests of each number from 1 on, where those up to j passed and k comes next
module _ (tests : ℕ → List (Option Fault)) where
  pub each_more : (k j : ℕ) → k ≡ suc j → first_fault (each_to tests j) ≡ None → first_fault (tests k) ≡ None → first_fault (each_to tests k) ≡ None
  each_more k j next h e =
      ap (λ n. first_fault (each_to tests n)) next ∙ first_after (each_to tests j) (tests (suc j)) h ∙ ap (λ n. first_fault (tests n)) (sym next) ∙ e

  pub each_fails : (n k j : ℕ) (f : Fault) → k ≡ suc j → k ≤ n → first_fault (each_to tests j) ≡ None → first_fault (tests k) ≡ Some f → first_fault (each_to tests n) ≡ Some f
  each_fails zero k j f next l h e = absurd (omega arith)
  each_fails (suc n) k j f next l h e =
      elim (cases_lt n k) [
        | inl last ↦
            let same : j ≡ n = omega arith in
            let at : k ≡ suc n = omega arith in
            first_after (each_to tests n) (tests (suc n)) (subst (λ i. first_fault (each_to tests i) ≡ None) same h) ∙ ap (λ i. first_fault (tests i)) (sym at) ∙ e
        | inr less ↦ first_before (each_to tests n) (tests (suc n)) f (each_fails n k j f next less h e)
      ]

  -- the same of what the tests answer
  pub each_passed : (k j : ℕ) (x : Unit {0}) → k ≡ suc j → first_fault (each_to tests j) ≡ None → checked (tests k) ≡ Ok x → first_fault (each_to tests k) ≡ None
  each_passed k j x next h e = each_more k j next h (passed_tests (first_fault (tests k)) tt x e).0

  pub each_stops : (n k j : ℕ) (f : Fault) → k ≡ suc j → k ≤ n → first_fault (each_to tests j) ≡ None → checked (tests k) ≡ Err f → Err f ≡ checked (each_to tests n)
  each_stops n k j f next l h e =
      sym (ap (λ o. after_tests o (tt {0})) (each_fails n k j f next l h (failed_tests (first_fault (tests k)) tt f e)))

  pub each_done : (n k : ℕ) → k ≡ n → first_fault (each_to tests k) ≡ None → Ok (tt {0}) ≡ checked (each_to tests n)
  each_done n k last h = sym (ap (λ o. after_tests o (tt {0})) (subst (λ i. first_fault (each_to tests i) ≡ None) last h))

-- two lists of tests, the one after the other
pub first_stops : (xs ys : List (Option Fault)) (f : Fault) → checked xs ≡ Err f → Err f ≡ checked (xs ++ ys)
first_stops xs ys f e = sym (ap (λ o. after_tests o (tt {0})) (first_before xs ys f (failed_tests (first_fault xs) tt f e)))

pub then_second : (xs ys : List (Option Fault)) (x : Unit {0}) → checked xs ≡ Ok x → checked ys ≡ checked (xs ++ ys)
then_second xs ys x e = sym (ap (λ o. after_tests o (tt {0})) (first_after xs ys (passed_tests (first_fault xs) tt x e).0))
