use Rattle.std.proofs.Common.{◌≡◌, ◌+◌, ◌<◌, ◌≤◌, ◌++◌, ℕ, List, Vec, Global, length, drop, map, ap, ◌∙◌, arith}
use Rattle.ap_defs.specs.Goals.{clause_of}
use Rattle.ap_defs.specs.HeadKeys.{kept_from}
use Rattle.ap_defs.specs.declared.goals.Clause.{Clause}
use Rattle.ap_defs.specs.declared.terms.Term.{Term}
use Rattle.ap_index.proofs.KeyLemmas.{none_kept, one_kept, place_small}
use Rattle.ap_index.proofs.predicate.Predicate.kids.Goals as goal
use Rattle.ap_index.proofs.predicate.Predicate.kids.Goals.{then-place-count+in_ok-push, else-place-count}

pub overflow_add-from : goal.overflow_add-from
overflow_add-from c =
    let v : length c.self.inside.clauses.now ≡ length c.args.self.now = ap (λ (cs : List (Clause Term)). length cs) c.self.view_is in
    let few = c.self.invariant.1.1 in
    let small : c.next-place.result ≤ length c.args.self.now =
    place_small c.args.key c.keeping.from c.next-place.result c.args.self.now c.keeping.kept.items (kept_from c.args.key 1 (map clause_of c.args.self.now))
    c.next-place.ensures (omega (arith, v)) c.keeping.invariant in
    record { fits = omega (arith, v, few, small) }

pub keeping-preserved : goal.keeping-preserved
keeping-preserved c =
    let v : length c.self.inside.clauses.now ≡ length c.args.self.now = ap (λ (cs : List (Clause Term)). length cs) c.self.view_is in
    let here : c.keeping.from < length c.args.self.now = omega (arith, v) in
    let rest = kept_from c.args.key (c.next-place.result + 1 + 1) (map clause_of (drop (c.next-place.result + 1) c.args.self.now)) in
    let all = kept_from c.args.key 1 (map clause_of c.args.self.now) in
    elim c.if-place-count.branch [
      | then-place-count+in_ok-push w ↦
          ap (λ (ks : Vec ℕ Global). ks.items ++ rest) w.kept-is ∙ ap (λ (ks : List ℕ). ks ++ rest) w.in_ok-push.ensures.items
          ∙ one_kept c.args.key c.keeping.from c.next-place.result c.args.self.now c.keeping.kept.items all c.next-place.ensures here c.keeping.invariant (omega (arith, v, w.if-place-count.true))
      | else-place-count w ↦
          ap (λ (ks : Vec ℕ Global). ks.items ++ rest) w.kept-is
          ∙ none_kept c.args.key c.keeping.from c.next-place.result c.args.self.now c.keeping.kept.items all c.next-place.ensures here c.keeping.invariant (omega (arith, v, w.if-place-count.false))
    ]
