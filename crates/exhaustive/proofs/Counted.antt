-- What `all` answers over the rows of a sheet. Assumes nothing.
use Rattle.std.proofs.Common.{◌≡◌, ℕ, suc, Bool, true, false, sym, arith}
use Rattle.std.specs.Bool.{MatchBool}
use Rattle.rules.proofs.Bools.{split}
use Rattle.rules.proofs.Ranges.{Each}
use Rattle.exhaustive.specs.Trials.{all_first}
use Rattle.exhaustive.proofs.KeptRows.{all_at, all_from}

pub all_counted : (n : ℕ) (test : ℕ → Bool) (r : Bool) → MatchBool r (Each 0 n test) (Each 0 n test → ⊥) → r ≡ all_first test (suc n)
all_counted n test true h = sym (all_from test (suc n) (λ k l. h k (omega arith) (omega arith)))
all_counted n test false h =
    split (all_first test (suc n)) (λ e. absurd (h (λ k from to. all_at test (suc n) k e (omega arith)))) sym
