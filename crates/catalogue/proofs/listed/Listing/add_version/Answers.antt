use Rattle.std.proofs.Common.{arith, ◌≤◌, slice_index_or, sym, subst, refl}
use Rattle.std.specs.List.{length_refill}
use Rattle.rules.specs.Bounds.{most_places}
use Rattle.std.proofs.lemmas.Bool.{leb-true}
use Rattle.catalogue.specs.Listed.{next_start, no_listed}
use Rattle.catalogue.specs.Places.{Versions}
use Rattle.catalogue.proofs.Fields.{All-grown, behind_more}
use Rattle.catalogue.proofs.listed.Listing.add_version.Goals as goal

pub invariant_of-self-clause-counted : goal.invariant_of-self-clause-counted
invariant_of-self-clause-counted c =
    let s = c.args.self.now in
    (s.counted.0, s.counted.1, subst (λ n. n ≤ most_places) (length_refill _ s.places.items _ refl) s.counted.2)

pub invariant_of-self-clause-each : goal.invariant_of-self-clause-each
invariant_of-self-clause-each c =
    let s = c.args.self.now in
    All-grown (λ p. Versions p.count) s.places _ _ c.in_ok-last.last c.deref_mut.ensures.value c.deref.ensures.0 (omega arith, omega arith) s.each

pub invariant_of-self-clause-within : goal.invariant_of-self-clause-within
invariant_of-self-clause-within c =
    let s = c.args.self.now in
    let last = slice_index_or c.deref.result.now c.in_ok-last.last no_listed in
    let fits = leb-true _ _ (sym c.if-not-fits.ensures) in
    All-grown (λ p. next_start s.rows p ≤ s.end) s.places _ _ c.in_ok-last.last c.deref_mut.ensures.value c.deref.ensures.0 (omega (arith, c.behind.ensures, behind_more s.rows last last.count)) s.within
