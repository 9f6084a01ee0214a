-- The meanings of the delivered catalogues keep the bounds. Assumes nothing.
-- It stands in specs/ and not in proofs/, since an implementation's law may name only specs/.
use Rattle.std.specs.Prelude.{◌≡◌, ℕ, zero, suc, ◌+◌, ◌-◌, ◌*◌, ◌^◌, ◌<◌, ◌≤◌, List, length, slice_index_or, All, ℤ, pos, negsuc, ◌*ℤ◌, neg_ℤ, nat_le, unsigned_abs, refl}
use Rattle.std.proofs.Common.{⊎_elim, mul-le-mul, arith}
use Rattle.std.proofs.lemmas.Int.{ints}
use Rattle.std.proofs.lemmas.Bool.{leb-true, leb-false, cond_both, cases_Bool}
use Rattle.rules.specs.Bounds.{most_versions, amount_reach}
use Rattle.rules.specs.Catalogues.{Meaning, SoundMeaning, rung}
use Rattle.catalogue.specs.Beside.{besides}
use Rattle.catalogue.specs.Places.{Counted, Versions}
use Rattle.catalogue.specs.Ladder.{ladder_meaning, no_place, rung_at}
use Rattle.rules.specs.Numbers.{number_at}
use Rattle.catalogue.specs.Listed.{Bytes, amount_start, listed_at, listed_meaning, no_listed}
use Rattle.catalogue.specs.declared.rung.Rung.{Rung}
use Rattle.catalogue.specs.declared.ladder.LadderPlace.{LadderPlace}
use Rattle.catalogue.specs.declared.listed.ListedPlace.{ListedPlace}

module _ (a b : Meaning) (s : SoundMeaning a) (t : SoundMeaning b) where
  -- What holds of the versions at each place of both meanings holds of them side by side.
  besides_versions : (P : ℕ → Type 0) → ((q : ℕ) → 1 ≤ q → q ≤ a.places → P (a.versions q)) → ((q : ℕ) → 1 ≤ q → q ≤ b.places → P (b.versions q)) → (q : ℕ) → 1 ≤ q → q ≤ (besides a b).places → P ((besides a b).versions q)
  besides_versions P f g q from to =
      cond_both (nat_le q a.places) (a.versions q) (b.versions (q - a.places)) P
      (λ e. f q from (leb-true q a.places e))
      (λ e. let past = leb-false q a.places e in g (q - a.places) (omega arith) (omega arith))

  -- An amount of two catalogues side by side lies within reach.
  besides_near : (row q v : ℕ) → row < (besides a b).rows → 1 ≤ q → q ≤ (besides a b).places → 1 ≤ v → v ≤ (besides a b).versions q → unsigned_abs ((besides a b).amount row q v) ≤ amount_reach
  besides_near row q v in_row from to first last =
      ⊎_elim
      (λ e. let to-first = leb-true q a.places e in
      let k : v ≤ a.versions q = simp e at last in
      simp e (s.near row q v (omega arith) from to-first first k))
      (λ e. let past = leb-false q a.places e in
      let k : v ≤ b.versions (q - a.places) = simp e at last in
      simp e (t.near row (q - a.places) v (omega arith) (omega arith) (omega arith) first k))
      (cases_Bool (nat_le q a.places))

  -- The meaning of two catalogues side by side keeps the bounds.
  pub besides_sound : SoundMeaning (besides a b)
  besides_sound = record {
    few_places = omega arith;
    some_row = omega (arith, s.some_row, t.some_row);
    few_rows = omega (arith, s.few_rows);
    some_version = besides_versions (λ n. 1 ≤ n) s.some_version t.some_version;
    few_versions = besides_versions (λ n. n ≤ most_versions) s.few_versions t.few_versions;
    near = besides_near;
  }

-- A number and its opposite are as far from 0.
abs_neg : (n : ℕ) → unsigned_abs (neg_ℤ (pos n)) ≡ n
abs_neg zero = refl
abs_neg (suc n) = refl

-- A multiple lies as many times as far from 0.
abs_times : (k : ℕ) (z : ℤ) → unsigned_abs (pos k *ℤ z) ≡ k * unsigned_abs z
abs_times k (pos n) = refl
abs_times k (negsuc n) = abs_neg (k * suc n)

-- So many steps lead no further than this.
pub times_near : (k : ℕ) (step : ℤ) → k < 2 ^ 8 → unsigned_abs step ≤ 2 ^ 31 → unsigned_abs (pos k *ℤ step) ≤ 2 ^ 8 * 2 ^ 31
times_near k step small near =
    let few : k ≤ 2 ^ 8 = omega arith in let m = mul-le-mul few near in omega (arith, abs_times k step)

-- An amount of a ladder lies within reach.
rung_near : (g : Rung) (v : ℕ) → v < 2 ^ 8 → unsigned_abs (rung g.base g.step v) ≤ amount_reach
rung_near g v small = let climb = times_near (v - 1) g.step (omega arith) g.near.1 in omega (arith, ints, g.near.0)

-- A number in four bytes lies within reach.
number_near : (bs : List ℕ) (i : ℕ) → Bytes bs → unsigned_abs (number_at bs i) ≤ amount_reach
number_near bs i small = omega (arith, ints, small i, small (i + 1), small (i + 2), small (i + 3))

-- A meaning by a list of places keeps the bounds, if its amounts lie within reach.
module _ {P : Type 0} (count : P → ℕ) (none : P) (rows : ℕ) (places : List P) (amount : ℕ → ℕ → ℕ → ℤ) (counts : Counted rows (length places)) (each : All (λ p. Versions (count p)) places) where
  -- How many versions the place of a number has.
  abbrev versions_at : ℕ → ℕ
  versions_at q = count (slice_index_or places (q - 1) none)

  -- Each place has at least one version and at most as many as a place may have.
  versions_kept : (q : ℕ) → 1 ≤ q → q ≤ length places → Versions (versions_at q)
  versions_kept q from to = each (q - 1) none (omega arith)

  -- The meaning with these places, and amounts within reach, keeps the bounds.
  places_sound : ((row q v : ℕ) → v ≤ most_versions → unsigned_abs (amount row q v) ≤ amount_reach) → SoundMeaning (record { places = length places; rows = rows; versions = versions_at; amount = amount })
  places_sound near = record {
    few_places = counts.2;
    some_row = counts.0;
    few_rows = counts.1;
    some_version = λ q from to. (versions_kept q from to).0;
    few_versions = λ q from to. (versions_kept q from to).1;
    near = λ row q v _ from to _ last. let few = (versions_kept q from to).1 in near row q v (omega arith);
  }

-- A ladder's meaning keeps the bounds of a catalogue.
pub ladder_sound : (rows : ℕ) (places : List LadderPlace) → Counted rows (length places) → All (λ p. Versions p.count) places → SoundMeaning (ladder_meaning rows places)
ladder_sound rows places counts each =
    places_sound (λ p. p.count) no_place rows places _ counts each (λ row q v few. rung_near (rung_at places row q) v (omega arith))

-- A listed catalogue's meaning keeps the bounds of a catalogue.
pub listed_sound : (bs : List ℕ) (rows : ℕ) (places : List ListedPlace) → Counted rows (length places) → All (λ p. Versions p.count) places → Bytes bs → SoundMeaning (listed_meaning bs rows places)
listed_sound bs rows places counts each small =
    places_sound (λ p. p.count) no_listed rows places _ counts each (λ row q v _. number_near bs (amount_start rows (listed_at places q) row v) small)
