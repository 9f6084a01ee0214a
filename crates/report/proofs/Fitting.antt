-- What fits on a page. Assumes nothing.
use Rattle.std.proofs.Common.{◌≡◌, ℕ, zero, suc, ◌+◌, ◌≤◌, min, List, [], ◌∷◌, ◌++◌, length, take, refl, ap, sym, ◌∙◌, inl, inr, arith}
use Rattle.std.proofs.Math.Seq.{take-append-add}
use Rattle.std.proofs.lemmas.List.{append-nil, take_all}
use Rattle.std.proofs.lemmas.Bool.{cases_lt}
use Rattle.report.specs.Reports.{report_buffer}
use Rattle.report.specs.Pages.{fitting}

take_again : (n : ℕ) (a b : List ℕ) → take n (take n a ++ b) ≡ take n (a ++ b)
take_again zero a b = refl
take_again (suc n) [] b = refl
take_again (suc n) (x ∷ a) b = ap (λ ys. x ∷ ys) (take_again n a b)

take_least : (n m : ℕ) (w : List ℕ) → n ≡ min (length w) m → take n w ≡ take m w
take_least n m w e =
    elim (cases_lt m (length w)) [
      | inl longer ↦ let same : n ≡ m = omega arith in ap (λ k. take k w) same
      | inr whole ↦ take_all n w (omega arith) ∙ sym (take_all m w (omega arith))
    ]

-- what is left out before is left out in the end
pub fitting_again : (a b : List ℕ) → fitting (fitting a ++ b) ≡ fitting (a ++ b)
unfolding fitting
fitting_again a b = take_again report_buffer a b

-- a text that is short enough fits
pub fitting_all : (a : List ℕ) → length a ≤ report_buffer → fitting a ≡ a
unfolding fitting
fitting_all a h = take_all report_buffer a h

-- what fits still does
pub still_fits : (a b : List ℕ) → a ≡ fitting b → fitting a ≡ a
still_fits a b e =
    ap fitting (e ∙ sym (append-nil (fitting b))) ∙ fitting_again b [] ∙ ap fitting (append-nil b) ∙ sym e

-- a word of which as much is put behind a text as there is space for
pub put_fits : (a w : List ℕ) (room n : ℕ) → room + length a ≡ report_buffer → n ≡ min (length w) room → a ++ take n w ≡ fitting (a ++ w)
unfolding fitting
put_fits a w room n e f =
    let all : length a + room ≡ report_buffer = omega arith in
    ap (λ ys. a ++ ys) (take_least n room w f) ∙ sym (take-append-add a w room) ∙ ap (λ k. take k (a ++ w)) all
