-- Lists of tests, and what it says that none of them finds a fault. Assumes nothing.
use Rattle.std.proofs.Common.{◌≡◌, ℕ, zero, suc, ◌≤◌, Bool, true, false, eqb, List, [], ◌∷◌, ◌++◌, Some, None, Option, refl, subst, inl, inr, arith}
use Rattle.std.specs.List.{AllByRecursion}
use Rattle.std.proofs.ByRecursion.{All-append}
use Rattle.std.proofs.lemmas.Bool.{and_parts, and_from, or_cases, or_left, or_right, eqb-true, eq-eqb, cases_lt, cond-true}
use Rattle.rules.specs.declared.refusals.Fault.{Fault}
use Rattle.rules.specs.Sheets.{AnyByRecursion}
use Rattle.rules.specs.Openings.{each_to, test, contains, contains_all, first_fault}

-- a test finds nothing
abbrev pub Passed : Option Fault → Type 0
Passed o = o ≡ None

some_none : {A : Type 0} {x : A} → Some x ≡ None → ⊥
some_none {A} {x} e = let z : ◌≡◌ {A = ℕ} 0 1 = cc in omega (arith, z)

pub all_passed : (ts : List (Option Fault)) → first_fault ts ≡ None → AllByRecursion Passed ts
all_passed [] h = tt
all_passed (Some f ∷ ts) h = absurd (some_none h)
all_passed (None ∷ ts) h = (refl, all_passed ts h)

pub none_first : (ts : List (Option Fault)) → AllByRecursion Passed ts → first_fault ts ≡ None
none_first [] h = refl
none_first (Some f ∷ ts) h = absurd (some_none h.0)
none_first (None ∷ ts) h = none_first ts h.1

pub test_passed : (b : Bool) (f : Fault) → test b f ≡ None → b ≡ true
test_passed true f e = refl
test_passed false f e = absurd (some_none e)

pub passed_test : (b : Bool) (f : Fault) → b ≡ true → Passed (test b f)
passed_test b f e = cond-true b None (Some f) e

module _ {A : Type 0} (P : A → Type 0) where
  pub all_left : (xs ys : List A) → AllByRecursion P (xs ++ ys) → AllByRecursion P xs
  all_left [] ys h = tt
  all_left (x ∷ xs) ys h = (h.0, all_left xs ys h.1)

  pub all_right : (xs ys : List A) → AllByRecursion P (xs ++ ys) → AllByRecursion P ys
  all_right [] ys h = h
  all_right (x ∷ xs) ys h = all_right xs ys h.1

  pub each_at : (f : ℕ → List A) (k : ℕ) → AllByRecursion P (each_to f k) → (q : ℕ) → 1 ≤ q → q ≤ k → AllByRecursion P (f q)
  each_at f zero h q a b = absurd (omega arith)
  each_at f (suc k) h q a b =
      elim (cases_lt k q) [
        | inl l ↦ let e : suc k ≡ q = omega arith in subst (λ x. AllByRecursion P (f x)) e (all_right (each_to f k) (f (suc k)) h)
        | inr l ↦ each_at f k (all_left (each_to f k) (f (suc k)) h) q a l
      ]

  pub each_all : (f : ℕ → List A) (k : ℕ) → ((q : ℕ) → 1 ≤ q → q ≤ k → AllByRecursion P (f q)) → AllByRecursion P (each_to f k)
  each_all f zero h = tt
  each_all f (suc k) h = All-append P (each_to f k) (f (suc k)) (each_all f k (λ q a b. h q a (omega arith))) (h (suc k) (omega arith) (omega arith))

pub contains_any : (q : ℕ) (xs : List ℕ) → contains q xs ≡ true → AnyByRecursion (λ x. x ≡ q) xs
contains_any q [] h = let z : ◌≡◌ {A = ℕ} 0 1 = cc in absurd (omega (arith, z))
contains_any q (x ∷ xs) h = elim (or_cases (eqb x q) (contains q xs) h) [ inl e ↦ inl (eqb-true x q e) | inr e ↦ inr (contains_any q xs e) ]

pub any_contains : (q : ℕ) (xs : List ℕ) → AnyByRecursion (λ x. x ≡ q) xs → contains q xs ≡ true
any_contains q [] h = absurd h
any_contains q (x ∷ xs) (inl e) = or_left (eqb x q) (contains q xs) (eq-eqb x q e)
any_contains q (x ∷ xs) (inr h) = or_right (eqb x q) (contains q xs) (any_contains q xs h)

-- each number up to one is in a list that contains all of them
pub all_contained : (n : ℕ) (xs : List ℕ) → contains_all n xs ≡ true → (q : ℕ) → 1 ≤ q → q ≤ n → AnyByRecursion (λ x. x ≡ q) xs
all_contained zero xs h q a b = absurd (omega arith)
all_contained (suc n) xs h q a b =
    let p = and_parts (contains_all n xs) (contains (suc n) xs) h in
    elim (cases_lt n q) [
      | inl l ↦ let e : suc n ≡ q = omega arith in subst (λ y. AnyByRecursion (λ x. x ≡ y) xs) e (contains_any (suc n) xs p.1)
      | inr l ↦ all_contained n xs p.0 q a l
    ]

pub contained_all : (n : ℕ) (xs : List ℕ) → ((q : ℕ) → 1 ≤ q → q ≤ n → AnyByRecursion (λ x. x ≡ q) xs) → contains_all n xs ≡ true
contained_all zero xs h = refl
contained_all (suc n) xs h =
    and_from (contains_all n xs) (contains (suc n) xs) (contained_all n xs (λ q a b. h q a (omega arith))) (any_contains (suc n) xs (h (suc n) (omega arith) (omega arith)))
