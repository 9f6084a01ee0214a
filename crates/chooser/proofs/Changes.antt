-- What a limit change is told, and what it leaves. Assumes nothing.
use Rattle.std.proofs.Common.{◌≡◌, ℕ, ◌<◌, ◌≤◌, leb, List, length, set, ℤ, pos, nat_abs, None, Option, sym, ◌∙◌, inl, inr, arith}
use mathlib.Core.Path.{fun_ext}
use Rattle.std.proofs.lemmas.List.{get_or-set_other}
use Rattle.std.proofs.lemmas.Grind.{get_or-set_at}
use Rattle.std.proofs.lemmas.Bool.{cases_eq, eq-eqb, ne_eqb, cond-true, cond-false, le-leb, lt-leb}
use Rattle.rules.specs.declared.refusals.Refusal.TheVariants.{LimitBeyond, NoSuchRow}
use Rattle.rules.specs.Bounds.{greatest_limit}
use Rattle.rules.specs.Sheets.{Limits}
use Rattle.rules.specs.Choices.{changed}
use Rattle.rules.specs.Grounds.{Ground, Setting}
use Rattle.rules.specs.Calls.{Verdict, change, closed, refused, replied, reply, taken}
use Rattle.search.specs.States.{limits_of}

module _ (S : Setting) (L : Limits) (gs : List Ground) (v : Option Verdict) (row : ℕ) (limit : ℤ) where
  pub no_such_row : S.last_row < row → reply S (closed L gs v) (change row limit) ≡ replied (refused NoSuchRow) (closed L gs v)
  unfolding reply
  no_such_row far = cond-false (leb row S.last_row) _ _ (lt-leb row S.last_row far)

  pub limit_beyond : row ≤ S.last_row → greatest_limit < nat_abs limit → reply S (closed L gs v) (change row limit) ≡ replied (refused LimitBeyond) (closed L gs v)
  unfolding reply
  limit_beyond there far =
      cond-true (leb row S.last_row) _ _ (le-leb row S.last_row there) ∙ cond-false (leb (nat_abs limit) greatest_limit) _ _ (lt-leb (nat_abs limit) greatest_limit far)

  pub limit_changed : row ≤ S.last_row → nat_abs limit ≤ greatest_limit → reply S (closed L gs v) (change row limit) ≡ replied taken (closed (changed L row limit) gs None)
  unfolding reply
  limit_changed there near =
      cond-true (leb row S.last_row) _ _ (le-leb row S.last_row there) ∙ cond-true (leb (nat_abs limit) greatest_limit) _ _ (le-leb (nat_abs limit) greatest_limit near)

-- a table with another limit on a row
pub limit_set : (limits : List ℤ) (index row : ℕ) (z limit : ℤ) → index ≡ row → z ≡ limit → row < length limits → limits_of (set limits index z) ≡ changed (limits_of limits) row limit
limit_set limits index row z limit at is there =
    fun_ext (λ r. elim (cases_eq r row) [
      | inl same ↦ get_or-set_at limits index r z (pos 0) (same ∙ sym at) (omega (arith, at, there)) ∙ is ∙ sym (cond-true _ _ _ (eq-eqb r row same))
      | inr other ↦ get_or-set_other limits index r z (pos 0) (λ e. other (e ∙ at)) ∙ sym (cond-false _ _ _ (ne_eqb r row other))
    ])
