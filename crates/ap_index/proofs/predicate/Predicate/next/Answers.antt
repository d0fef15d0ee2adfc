use Rattle.std.proofs.Common.{◌≡◌, ◌+◌, ℕ, List, length, map, sym, subst, ap, ◌∙◌, drop, arith}
use Rattle.std.proofs.lemmas.List.{length-map}
use Rattle.std.specs.List.{position_or_len}
use Rattle.ap_defs.specs.Goals.{clause_of}
use Rattle.ap_defs.specs.HeadKeys.{agree, first_key}
use Rattle.ap_defs.specs.declared.goals.Clause.{Clause}
use Rattle.ap_defs.specs.declared.terms.Term.{Term}
use Rattle.ap_index.specs.Keys.{AreNarrow}
use Rattle.ap_index.specs.Places.{AreKeysWithin}
use Rattle.ap_index.proofs.KeyLemmas.{keys_from}
use Rattle.ap_index.proofs.predicate.Predicate.next.Goals as goal

pub next_place-requires-clause-narrow : goal.next_place-requires-clause-narrow
next_place-requires-clause-narrow c = subst AreNarrow (sym (c.as_slice.ensures.value ∙ c.self.invariant.same)) c.self.invariant.narrow

pub next_place-requires-clause-few : goal.next_place-requires-clause-few
next_place-requires-clause-few c =
    let n : length c.as_slice.result.now ≡ length c.self.inside.clauses.now = ap (λ (ks : List ℕ). length ks) (c.as_slice.ensures.value ∙ c.self.invariant.same) ∙ length-map (map clause_of c.self.inside.clauses.now) _ ∙ length-map c.self.inside.clauses.now clause_of in
    let few = c.self.invariant.few in
    omega (arith, n, few)

pub next_place-requires-clause-starts : goal.next_place-requires-clause-starts
next_place-requires-clause-starts c = c.self.invariant.starts ∙ ap (λ (ks : List ℕ). length ks + 1) (sym c.as_slice.ensures.value)

pub next_place-requires-clause-ends : goal.next_place-requires-clause-ends
next_place-requires-clause-ends c = c.self.invariant.ends ∙ ap (λ (ks : List ℕ). length ks + 1) (sym c.as_slice.ensures.value)

pub next_place-requires-clause-within : goal.next_place-requires-clause-within
next_place-requires-clause-within c =
    subst (λ (ks : List ℕ). AreKeysWithin ks c.self.inside.places.starts.items c.self.inside.places.ends.items) (sym c.as_slice.ensures.value) c.self.invariant.within

pub returns : goal.returns
returns c =
    c.next_place.ensures
    ∙ ap (λ (ks : List ℕ). c.args.from + position_or_len (λ k. agree c.args.key k) (drop c.args.from ks)) (c.as_slice.ensures.value ∙ c.self.invariant.same)
    ∙ ap (λ (n : ℕ). c.args.from + n) (keys_from c.args.key c.args.from c.self.inside.clauses.now)
    ∙ ap (λ (cs : List (Clause Term)). c.args.from + position_or_len (λ d. agree c.args.key (first_key d.args)) (map clause_of (drop c.args.from cs))) c.self.view_is
