-- The rungs of a ladder in a table, and in the body of a field. Assumes nothing.
use Rattle.std.proofs.Common.{◌≡◌, ℕ, zero, suc, ◌+◌, ◌*◌, ◌<◌, ◌≤◌, List, [], ◌∷◌, ◌++◌, map, length, set, get_or, get_or-take, take, drop, sym, refl, ap, ◌∙◌, ap₂, arith}
use Rattle.std.specs.List.{range_with_len}
use denote.Param.Members.{Mut, Called}
use Rattle.std.specs.Array.{IsFromFnResult}
use Rattle.std.proofs.lemmas.List.FromFn.{take-map-range_with_len, map-range_with_len_more, fill_by_all}
use Rattle.rules.specs.Bounds.{most_rows, greatest_row}
use Rattle.std.proofs.lemmas.List.{length-map, get_or-map, take-map, map_push, take_more_set, drop-drop}
use Rattle.rules.specs.Numbers.{number_at}
use Rattle.rules.specs.Catalogues.{rung}
use Rattle.rules.proofs.Filled.{each_filled}
use Rattle.catalogue.specs.declared.rung.Rung.{Rung}
use Rattle.catalogue.specs.Ladder.{no_rung as blank}
use Rattle.jobfile.specs.Stated.{RungStated, no_rung, rung_amount}
use Rattle.jobfile.specs.InMemory.{rungs_of}
use Rattle.jobfile.specs.Reading.{numbers_in, rungs_in}
use Rattle.jobfile.proofs.Codec.{number_drop}

-- a rung as it is stated
abbrev pub stated : Rung → RungStated
stated g = record { base = g.base; step = g.step }

-- the rung of a row in the body of a ladder field
abbrev pub rung_in : List ℕ → ℕ → RungStated
rung_in bs r = record { base = number_at bs (2 + 8 * r); step = number_at bs (2 + 8 * r + 4) }

-- a rung in use gives the amount of its row
pub rung_amount_at : (n r v : ℕ) (gs : List Rung) (g : Rung) → r < n → r < length gs → g ≡ get_or gs r g → rung g.base g.step v ≡ rung_amount (rungs_of n gs) v r
rung_amount_at n r v gs g l m e =
    ap (λ x. rung x.base x.step v) (ap stated e ∙ sym (get_or-map stated gs r g no_rung m) ∙ sym (get_or-take n (map stated gs) r no_rung l) ∙ ap (λ xs. get_or xs r no_rung) (take-map stated n gs))

-- one rung more in a table
pub rungs_more : (bs : List ℕ) (gs : List Rung) (r i : ℕ) (g : Rung) → i ≡ r → r < length gs → g.base ≡ number_at bs (2 + 8 * i) → g.step ≡ number_at bs (2 + 8 * i + 4) → rungs_of r gs ≡ map (rung_in bs) (range_with_len 0 r) → rungs_of (r + 1) (set gs i g) ≡ map (rung_in bs) (range_with_len 0 (r + 1))
rungs_more bs gs r i g same l base step h =
    let here : stated g ≡ rung_in bs r = ap₂ (λ b s. record { base = b; step = s }) base step ∙ ap (rung_in bs) same in
    ap (λ i. rungs_of (r + 1) (set gs i g)) same
    ∙ ap (map stated) (take_more_set gs r g l)
    ∙ map_push stated (take r gs) g
    ∙ ap₂ (λ xs x. xs ++ x ∷ []) h here
    ∙ sym (map-range_with_len_more (rung_in bs) 0 r r (omega arith))

-- the rungs by their rows are those that the body's numbers give
from_row : (k a : ℕ) (bs : List ℕ) → rungs_in (numbers_in (2 * k) (drop (2 + 8 * a) bs)) ≡ map (rung_in bs) (range_with_len a k)
unfolding numbers_in
from_row zero a bs = refl
from_row (suc k) a bs =
    let two : 2 * suc k ≡ suc (suc (2 * k)) = omega arith in
    let next : 2 + 8 * a + 4 + 4 ≡ 2 + 8 * (a + 1) = omega arith in
    let at_0 : 2 + 8 * a + 0 ≡ 2 + 8 * a = omega arith in
    let at_4 : 2 + 8 * a + 4 + 0 ≡ 2 + 8 * a + 4 = omega arith in
    ap (λ n. rungs_in (numbers_in n (drop (2 + 8 * a) bs))) two
    ∙ ap₂ (λ g gs. g ∷ gs)
    (ap₂ (λ b s. record { base = b; step = s })
    (number_drop (2 + 8 * a) 0 bs ∙ ap (number_at bs) at_0)
    (ap (λ xs. number_at xs 0) (drop-drop 4 (2 + 8 * a) bs) ∙ number_drop (2 + 8 * a + 4) 0 bs ∙ ap (number_at bs) at_4))
    (ap (λ xs. rungs_in (numbers_in (2 * k) xs)) (ap (drop 4) (drop-drop 4 (2 + 8 * a) bs) ∙ drop-drop 4 (2 + 8 * a + 4) bs ∙ ap (λ n. drop n bs) next) ∙ from_row k (a + 1) bs)

pub rungs_counted : (k : ℕ) (bs : List ℕ) → map (rung_in bs) (range_with_len 0 k) ≡ rungs_in (numbers_in (2 * k) (drop 2 bs))
rungs_counted k bs = sym (from_row k 0 bs)

-- a table of rungs that a closure made row by row, each from a body
module _ {F : Type 0} (g : Mut F (ℕ × Unit {0}) Rung) (f : F) (bs : List ℕ) (makes : (r : ℕ) (y : Rung) (q : F) → r < most_rows → Called g f (r, tt) y q → (q ≡ f) × (y.base ≡ number_at bs (2 + 8 * r)) × (y.step ≡ number_at bs (6 + 8 * r))) where
  made : (r : ℕ) (y : Rung) (q : F) → r < most_rows → Called g f (r, tt) y q → (q ≡ f) × (stated y ≡ rung_in bs r)
  made r y q to k =
      let m = makes r y q to k in
      let step : 6 + 8 * r ≡ 2 + 8 * r + 4 = omega arith in
      (m.0, ap₂ (λ b s. record { base = b; step = s }) m.1 (m.2 ∙ ap (number_at bs) step))

  pub rungs_made : (ys : List Rung) (m : ℕ) → m ≤ greatest_row → IsFromFnResult g f ys most_rows → rungs_of (suc m) ys ≡ rungs_in (numbers_in (2 * suc m) (drop 2 bs))
  rungs_made ys m l h =
      let all = fill_by_all (rung_in bs) (map stated ys) most_rows no_rung (length-map ys stated ∙ h.long) (λ r to. get_or-map stated ys r blank no_rung (omega (arith, h.long)) ∙ each_filled g f most_rows (λ r y. stated y ≡ rung_in bs r) made ys blank h r to) in
      sym (take-map stated (suc m) ys) ∙ ap (take (suc m)) all ∙ take-map-range_with_len (rung_in bs) 0 most_rows (suc m) (omega arith) ∙ rungs_counted (suc m) bs
