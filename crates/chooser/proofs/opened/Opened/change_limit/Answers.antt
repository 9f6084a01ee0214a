use Rattle.std.proofs.Common.{◌≡◌, ◌<◌, ◌≤◌, None, unsigned_abs, w32, w64, to_z, of_z, length, sym, refl, ap, ap₂, ◌∙◌, subst, arith}
use borrow.Author.Differences.{ints}
use Rattle.rules.specs.Bounds.{greatest_limit}
use Rattle.rules.specs.Calls.{Reply, closed}
use Rattle.search.specs.States.{chosen_from, limits_of}
use Rattle.ledger.specs.Model.{held}
use Rattle.chooser.proofs.Changes.{no_such_row, limit_beyond, limit_changed, limit_set}
use Rattle.chooser.proofs.opened.Opened.change_limit.Goals as goal

pub returns-then-from-last_row : goal.returns-then-from-last_row
returns-then-from-last_row c =
    let is = no_such_row (chosen_from c.args.self.now.search) _ _ _ c.args.row c.args.limit (omega arith) in
    record { answer = sym (ap (λ (r : Reply). r.answer) is); job = sym (ap (λ (r : Reply). r.job) is); grid = refl }

pub returns-then-unsigned_abs-gt-GREATEST_LIMIT : goal.returns-then-unsigned_abs-gt-GREATEST_LIMIT
returns-then-unsigned_abs-gt-GREATEST_LIMIT c =
    let read : to_z w32 (of_z w32 c.args.limit) ≡ c.args.limit = omega (arith, ints) in
    let far : greatest_limit < unsigned_abs c.args.limit = subst (λ n. greatest_limit < n) (c.unsigned_abs.ensures.value ∙ ap unsigned_abs read) (omega arith) in
    let is = limit_beyond (chosen_from c.args.self.now.search) _ _ _ c.args.row c.args.limit (omega arith) far in
    record { answer = sym (ap (λ (r : Reply). r.answer) is); job = sym (ap (λ (r : Reply). r.job) is); grid = refl }

pub returns : goal.returns
returns c =
    let read : to_z w32 (of_z w32 c.args.limit) ≡ c.args.limit = omega (arith, ints) in
    let near : unsigned_abs c.args.limit ≤ greatest_limit = subst (λ n. n ≤ greatest_limit) (c.unsigned_abs.ensures.value ∙ ap unsigned_abs read) (omega arith) in
    let s = c.args.self.now.search in
    let done = c.set_limit.ensures in
    let wide : to_z w64 (of_z w64 c.from-2.result) ≡ c.args.limit = omega (arith, ints) in
    let low : c.args.row < length s.limits = omega (arith, s.all_rows, s.grid.few_rows, c.last_row.ensures.is) in
    let is = limit_changed (chosen_from s) _ _ _ c.args.row c.args.limit (omega arith) near in
    let set = limit_set s.limits c.args.row c.args.row _ c.args.limit refl wide low in
    record {
      answer = sym (ap (λ (r : Reply). r.answer) is);
      job = ap₂ (λ l g. closed (limits_of l) (held g) None) done.limits done.ledger ∙ ap (λ L. closed L (held s.ledger) None) set ∙ sym (ap (λ (r : Reply). r.job) is);
      grid = done.grid;
    }
