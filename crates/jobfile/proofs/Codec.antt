-- Numbers in four bytes, there and back. Assumes nothing.
use Rattle.std.proofs.Common.{◌≡◌, ℕ, zero, suc, ◌+◌, ◌*◌, ◌/◌, ◌%◌, ◌^◌, ◌<◌, ◌≤◌, List, [], ◌∷◌, ◌++◌, length, get_or, take, drop, ℤ, pos, negsuc, sym, refl, ap, ◌∙◌, arith, get_or-drop, get_or-take, w32, SFits, to_z, of_z}
use mir.ValLaws.{to_z-Fits}
use Rattle.std.proofs.lemmas.List.Elements.{All-drop, All-from_recursion, All-take, recursion_from_All}
use Rattle.std.proofs.lemmas.Int.{to_z-of_z, of_z-to_z}
use Rattle.std.specs.List.{AllByRecursion}
use Rattle.rules.specs.Numbers.{number_at}
use Rattle.jobfile.specs.Reading.{amount_in, numbers_in, rungs_in}
use Rattle.jobfile.specs.Writing.{four, fours, rung_numbers}
use Rattle.jobfile.specs.Stated.{RungStated}

abbrev pub byte : ℕ → Type 0
byte b = b < 2 ^ 8

-- each is a byte
abbrev pub Bytes : List ℕ → Type 0
Bytes bs = AllByRecursion byte bs

-- so are those of a part
pub bytes_take : (n : ℕ) (bs : List ℕ) → Bytes bs → Bytes (take n bs)
bytes_take n bs h = recursion_from_All byte (take n bs) (All-take byte n bs (All-from_recursion byte bs h))

pub bytes_drop : (n : ℕ) (bs : List ℕ) → Bytes bs → Bytes (drop n bs)
bytes_drop n bs h = recursion_from_All byte (drop n bs) (All-drop byte n bs (All-from_recursion byte bs h))

fits_below : (z : ℤ) → SFits w32 z → of_z w32 z < 2 ^ 32
fits_below (pos n) f = omega (arith, f.sfits)
fits_below (negsuc n) f = omega (arith, f.sfits)

pub number_four : (z : ℤ) (rest : List ℕ) → SFits w32 z → number_at (four z ++ rest) 0 ≡ z
number_four z rest f =
    let u = of_z w32 z in
    let h = fits_below z f in
    let e : u / 16777216 * 16777216 + u / 65536 % 256 * 65536 + u / 256 % 256 * 256 + u % 256 ≡ u = omega arith in
    ap (to_z w32) e ∙ to_z-of_z w32 z f

pub four_number : (a b c d : ℕ) (rest : List ℕ) → a < 256 → b < 256 → c < 256 → d < 256 → four (number_at (a ∷ (b ∷ (c ∷ (d ∷ rest)))) 0) ≡ a ∷ (b ∷ (c ∷ (d ∷ [])))
four_number a b c d rest ha hb hc hd =
    let u = a * 16777216 + b * 65536 + c * 256 + d in
    let e : of_z w32 (to_z w32 u) ≡ u = of_z-to_z w32 u (omega arith) in
    let p : u / 16777216 ≡ a = omega arith in
    let q : u / 65536 % 256 ≡ b = omega arith in
    let r : u / 256 % 256 ≡ c = omega arith in
    let s : u % 256 ≡ d = omega arith in
    rw (e, p, q, r, s)

pub length_fours : (zs : List ℤ) → length (fours zs) ≡ 4 * length zs
length_fours [] = refl
length_fours (z ∷ zs) = omega (arith, length_fours zs)

pub fours_back : (k : ℕ) (bs : List ℕ) → Bytes bs → length bs ≡ 4 * k → fours (numbers_in k bs) ≡ bs
unfolding numbers_in
fours_back zero [] h e = refl
fours_back zero (x ∷ bs) h e = absurd (omega arith)
fours_back (suc k) [] h e = absurd (omega arith)
fours_back (suc k) (a ∷ []) h e = absurd (omega arith)
fours_back (suc k) (a ∷ (b ∷ [])) h e = absurd (omega arith)
fours_back (suc k) (a ∷ (b ∷ (c ∷ []))) h e = absurd (omega arith)
fours_back (suc k) (a ∷ (b ∷ (c ∷ (d ∷ bs)))) h e =
    let i = fours_back k bs h.1.1.1.1 (omega arith) in
    let q = four_number a b c d bs h.0 h.1.0 h.1.1.0 h.1.1.1.0 in
    ap (λ xs. xs ++ fours (numbers_in k bs)) q ∙ ap (λ t. a ∷ (b ∷ (c ∷ (d ∷ t)))) i

pub fours_there : (zs : List ℤ) → AllByRecursion (SFits w32) zs → numbers_in (length zs) (fours zs) ≡ zs
unfolding numbers_in
fours_there [] h = refl
fours_there (z ∷ zs) h = rw (number_four z (fours zs) h.0, fours_there zs h.1)

pub length_numbers : (k : ℕ) (bs : List ℕ) → length (numbers_in k bs) ≡ k
unfolding numbers_in
length_numbers zero bs = refl
length_numbers (suc k) bs = ap suc (length_numbers k (drop 4 bs))

pub number_drop : (h j : ℕ) (bs : List ℕ) → number_at (drop h bs) j ≡ number_at bs (h + j)
number_drop h j bs =
    let p : h + (j + 1) ≡ h + j + 1 = omega arith in
    let q : h + (j + 2) ≡ h + j + 2 = omega arith in
    let r : h + (j + 3) ≡ h + j + 3 = omega arith in
    simp (get_or-drop, p, q, r)

pub number_take : (n j : ℕ) (bs : List ℕ) → j + 4 ≤ n → number_at (take n bs) j ≡ number_at bs j
number_take n j bs l =
    let p : j < n = omega arith in
    let q : j + 1 < n = omega arith in
    let r : j + 2 < n = omega arith in
    let s : j + 3 < n = omega arith in
    rw (get_or-take n bs j 0, get_or-take n bs (j + 1) 0, get_or-take n bs (j + 2) 0, get_or-take n bs (j + 3) 0)

-- each of the numbers, by the bytes that it lies in
pub getD_numbers : (k i : ℕ) (bs : List ℕ) → i < k → get_or (numbers_in k bs) i (pos 0) ≡ number_at bs (4 * i)
unfolding numbers_in
getD_numbers zero i bs l = absurd (omega arith)
getD_numbers (suc k) zero bs l = refl
getD_numbers (suc k) (suc i) bs l =
    let on : 4 + 4 * i ≡ 4 * suc i = omega arith in
    getD_numbers k i (drop 4 bs) (omega arith) ∙ number_drop 4 (4 * i) bs ∙ ap (number_at bs) on

-- the amount of a row lies behind the place and the amounts before it
pub amount_at : (m r : ℕ) (bs : List ℕ) → r < suc m → number_at bs (1 + 4 * r) ≡ amount_in m bs r
amount_at m r bs l = sym (getD_numbers (suc m) r (drop 1 bs) l ∙ number_drop 1 (4 * r) bs)

-- rungs as numbers, there and back
pub rungs_there : (gs : List RungStated) → rungs_in (rung_numbers gs) ≡ gs
rungs_there [] = refl
rungs_there (g ∷ gs) = ap (λ t. g ∷ t) (rungs_there gs)

pub rungs_back : (k : ℕ) (zs : List ℤ) → length zs ≡ 2 * k → rung_numbers (rungs_in zs) ≡ zs
rungs_back zero [] e = refl
rungs_back zero (b ∷ zs) e = absurd (omega arith)
rungs_back (suc k) [] e = absurd (omega arith)
rungs_back (suc k) (b ∷ []) e = absurd (omega arith)
rungs_back (suc k) (b ∷ (s ∷ zs)) e = ap (λ t. b ∷ (s ∷ t)) (rungs_back k zs (omega arith))

pub length_rungs : (k : ℕ) (zs : List ℤ) → length zs ≡ 2 * k → length (rungs_in zs) ≡ k
length_rungs zero [] e = refl
length_rungs zero (b ∷ zs) e = absurd (omega arith)
length_rungs (suc k) [] e = absurd (omega arith)
length_rungs (suc k) (b ∷ []) e = absurd (omega arith)
length_rungs (suc k) (b ∷ (s ∷ zs)) e = ap suc (length_rungs k zs (omega arith))

pub length_rung_numbers : (gs : List RungStated) → length (rung_numbers gs) ≡ 2 * length gs
length_rung_numbers [] = refl
length_rung_numbers (g ∷ gs) = omega (arith, length_rung_numbers gs)

-- what is read of bytes fits 32 bits
pub byte_at : (bs : List ℕ) → Bytes bs → (i : ℕ) → get_or bs i 0 < 256
byte_at [] h i = omega arith
byte_at (b ∷ bs) h zero = h.0
byte_at (b ∷ bs) h (suc i) = byte_at bs h.1 i

pub number_fits : (bs : List ℕ) (i : ℕ) → Bytes bs → SFits w32 (number_at bs i)
number_fits bs i h = to_z-Fits w32 _ record { fits = omega (arith, byte_at bs h i, byte_at bs h (i + 1), byte_at bs h (i + 2), byte_at bs h (i + 3)) }

pub numbers_fit : (k : ℕ) (bs : List ℕ) → Bytes bs → AllByRecursion (SFits w32) (numbers_in k bs)
unfolding numbers_in
numbers_fit zero bs h = tt
numbers_fit (suc k) bs h = (number_fits bs 0 h, numbers_fit k (drop 4 bs) (bytes_drop 4 bs h))
