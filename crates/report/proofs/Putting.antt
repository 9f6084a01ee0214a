-- Texts written one behind another. Assumes nothing.
use Rattle.std.proofs.Common.{◌≡◌, ℕ, ◌+◌, ◌<◌, List, [], ◌∷◌, ◌++◌, flat_map, get_or, length, take, sym, ap, ◌∙◌, subst, append_assoc}
use Rattle.std.proofs.lemmas.List.{append-nil}
use Rattle.std.proofs.lemmas.Grind.{flat_map-append, take_at_read}
use Rattle.report.specs.declared.page.Page.{Page}
use Rattle.report.specs.Pages.{fitting}
use Rattle.report.specs.Writing.{Puts}
use Rattle.report.proofs.Fitting.{fitting_again}

-- two texts
pub both_put : {p q r : Page} {a b : List ℕ} → Puts p a q → Puts q b r → Puts p (a ++ b) r
both_put {p} {q} {r} {a} {b} e f =
    record { text_is = f.text_is ∙ ap (λ x. fitting (x ++ b)) e.text_is ∙ fitting_again (p.bytes.items ++ a) b ∙ ap fitting (append_assoc p.bytes.items a b) }

-- a text, and then a word and a number
pub then_number : (w n : List ℕ) {p q r : Page} {a : List ℕ} → Puts p a q → Puts q (w ++ n) r → Puts p (a ++ w ++ n) r
then_number w n {p} {q} {r} {a} e f = subst (λ t. Puts p t r) (sym (append_assoc a w n)) (both_put e f)

-- the text of one element more
pub one_more_put : {X : Type 0} (f : X → List ℕ) (xs : List X) (i : ℕ) (d : X) {p q r : Page} → i < length xs → Puts p (flat_map f (take i xs)) q → Puts q (f (get_or xs i d)) r → Puts p (flat_map f (take (i + 1) xs)) r
one_more_put f xs i d {p} {q} {r} l e g = subst (λ t. Puts p t r) same (both_put e g)
  where
    last : flat_map f (get_or xs i d ∷ []) ≡ f (get_or xs i d)
    last = append-nil (f (get_or xs i d))

    same : flat_map f (take i xs) ++ f (get_or xs i d) ≡ flat_map f (take (i + 1) xs)
    same = sym (ap (flat_map f) (take_at_read xs i d l).1 ∙ flat_map-append f (take i xs) (get_or xs i d ∷ []) ∙ ap (λ t. flat_map f (take i xs) ++ t) last)
