-- A ground is learned, one line and one version more at a time. Assumes nothing.
use Rattle.std.proofs.Common.{◌≡◌, ℕ, suc, ◌-◌, ◌≤◌, map, sym, ap, ◌∙◌, arith}
use Rattle.rules.specs.Grounds.{Setting, Part, Ground, open_places, moved, with_lines, learned_up_to, learn_from}
use Rattle.search.specs.States.{moved_at}

-- what the versions give, one after the other, at a position
module _ (S : Setting) (t : Part) (pick : ℕ → Ground) (p : ℕ) (at : open_places S t ≡ p) where
  pub learned_more : (v : ℕ) (d e : Ground) → 1 ≤ v → d ≡ learned_up_to S t pick (v - 1) → e ≡ with_lines S (map (moved_at S p v) (pick v)) d → e ≡ learned_up_to S t pick v
  learned_more v d e some so_far put =
      let back : suc (v - 1) ≡ v = omega arith in
      put
      ∙ ap (with_lines S (map (moved_at S p v) (pick v))) so_far
      ∙ ap (λ q. with_lines S (map (moved_at S q v) (pick v)) (learned_up_to S t pick (v - 1))) (sym at)
      ∙ sym (ap (learned_up_to S t pick) (sym back) ∙ ap (λ x. with_lines S (map (moved S t x) (pick x)) (learned_up_to S t pick (v - 1))) back)

  pub learned_all : (k : ℕ) (d : Ground) → k ≡ S.versions p → d ≡ learned_up_to S t pick k → d ≡ learn_from S t pick
  unfolding learn_from
  learned_all k d is so = so ∙ ap (learned_up_to S t pick) (is ∙ ap S.versions (sym at))
