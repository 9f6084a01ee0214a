-- The call that a request is for, worked out. Assumes nothing.
use Rattle.std.proofs.Common.{◌≡◌, ℕ, Bool, true, false, ◌&&◌, eqb, ℤ, pos, negsuc, nat_abs, Some, None, Option, refl, ap, ◌∙◌, arith}
use Rattle.std.proofs.lemmas.Bool.{cond_both, and_parts, and_from, eqb-true, eq-eqb}
use Rattle.rules.specs.declared.records.Request.{Request}
use Rattle.rules.specs.Calls.{Call, begin_search, change, clear, close, run}
use Rattle.rules.specs.Records.{asked, request_of}
use Rattle.rules.proofs.Bools.{clash}

-- a request is for the call found, or for none
abbrev pub Fits : Request → Option Call → Type 0
Fits r None = (c : Call) → r ≡ request_of c → ⊥
Fits r (Some c) = r ≡ request_of c

zero_of : (x : ℤ) → nat_abs x ≡ 0 → x ≡ pos 0
zero_of (pos n) e = ap pos e
zero_of (negsuc n) e = absurd (omega (arith, e))

made : (r : Request) (code row : ℕ) (number : ℤ) → r.code ≡ code → r.row ≡ row → r.number ≡ number → r ≡ record { code = code; row = row; number = number }
made r code row number a b c = λ i. record { code = a i; row = b i; number = c i }

module _ (r : Request) where
  abbrev rowless : Bool
  rowless = eqb r.row 0

  abbrev bare : Bool
  bare = rowless && eqb (nat_abs r.number) 0

  bare_made : (code : ℕ) → (eqb r.code code && bare) ≡ true → r ≡ record { code = code; row = 0; number = pos 0 }
  bare_made code e =
      let a = and_parts (eqb r.code code) bare e in
      let b = and_parts rowless (eqb (nat_abs r.number) 0) a.1 in
      made r code 0 (pos 0) (eqb-true _ _ a.0) (eqb-true _ _ b.0) (zero_of r.number (eqb-true _ _ b.1))

  made_bare : (code : ℕ) → r ≡ record { code = code; row = 0; number = pos 0 } → (eqb r.code code && bare) ≡ true
  made_bare code e =
      and_from _ _ (eq-eqb _ _ (ap (λ x. x.code) e)) (and_from _ _ (eq-eqb _ _ (ap (λ x. x.row) e)) (eq-eqb _ _ (ap (λ x. nat_abs x.number) e)))

  made_rowless : (b : ℤ) → r ≡ record { code = 4; row = 0; number = b } → (eqb r.code 4 && rowless) ≡ true
  made_rowless b e = and_from _ _ (eq-eqb _ _ (ap (λ x. x.code) e)) (eq-eqb _ _ (ap (λ x. x.row) e))

  no_call : eqb r.code 1 ≡ false → (eqb r.code 2 && bare) ≡ false → (eqb r.code 3 && bare) ≡ false → (eqb r.code 4 && rowless) ≡ false → (eqb r.code 5 && bare) ≡ false → (c : Call) → r ≡ request_of c → ⊥
  no_call a b c d e (change row limit) h = clash (eq-eqb r.code 1 (ap (λ x. x.code) h)) a
  no_call a b c d e clear h = clash (made_bare 2 h) b
  no_call a b c d e begin_search h = clash (made_bare 3 h) c
  no_call a b c d e (run x) h = clash (made_rowless x h) d
  no_call a b c d e close h = clash (made_bare 5 h) e

  pub asked_fits : Fits r (asked r)
  unfolding asked
  asked_fits =
      cond_both (eqb r.code 1) _ _ (Fits r) (λ a. made r 1 r.row r.number (eqb-true _ _ a) refl refl)
      (λ a. cond_both (eqb r.code 2 && bare) _ _ (Fits r) (bare_made 2)
      (λ b. cond_both (eqb r.code 3 && bare) _ _ (Fits r) (bare_made 3)
      (λ c. cond_both (eqb r.code 4 && rowless) _ _ (Fits r)
      (λ d. let p = and_parts (eqb r.code 4) rowless d in made r 4 0 r.number (eqb-true _ _ p.0) (eqb-true _ _ p.1) refl)
      (λ d. cond_both (eqb r.code 5 && bare) _ _ (Fits r) (bare_made 5) (λ e. no_call a b c d e)))))

asked_call : (c : Call) → asked (request_of c) ≡ Some c
unfolding asked
asked_call (change row limit) = refl
asked_call clear = refl
asked_call begin_search = refl
asked_call (run x) = refl
asked_call close = refl

pub asked_request : (r : Request) (c : Call) → r ≡ request_of c → asked r ≡ Some c
asked_request r c e = ap asked e ∙ asked_call c

pub asked_none : (r : Request) → ((c : Call) → r ≡ request_of c → ⊥) → asked r ≡ None
asked_none r n = by (asked r) (asked_fits r)
  where
    by : (o : Option Call) → Fits r o → o ≡ None
    by None h = refl
    by (Some c) h = absurd (n c h)
