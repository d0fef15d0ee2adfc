use Rattle.std.proofs.Common.{◌+◌, ◌<◌, [], map, ap, ◌∙◌, subst, arith}
use Rattle.ap_defs.specs.Renaming.{IsBelow, rename_swap, rename_term, rename_var}
use Rattle.ap_defs.specs.Substitution.{occurs, under}
use Rattle.ap_defs.specs.Terms.{susp, term_of}
use Rattle.ap_defs.specs.declared.terms.Term.{Term}
use Rattle.ap_store.specs.Founds.{bare_term}
use Rattle.ap_store.specs.Views.{bindings_of}
use Rattle.ap_store.proofs.NarrowLemmas.{alone_same, leaf_alone, same_swapped}
use Rattle.ap_store.proofs.narrow.alone_in_branch.Goals as goal

pub overflow_add-base : goal.overflow_add-base
overflow_add-base c =
    let k = subst (λ (u : Term). IsBelow c.args.b.end (rename_term c.args.b.base (term_of u))) c.in-Susp.is c.descending.invariant.below in
    let l : c.args.b.base + c.in-Susp.x.num < c.args.b.end = k.1 in
    omega arith

pub returns-in-Unit : goal.returns-in-Unit
returns-in-Unit c =
    let s = c.args.store.now in
    let h = leaf_alone (bindings_of s) c.args.b.base c.descending.rest.now c.in-Unit.is in
    λ y. c.descending.invariant.same y ∙ h y

pub returns-in-Susp : goal.returns-in-Susp
returns-in-Susp c =
    let bs = bindings_of c.args.store.now in
    let base = c.args.b.base in
    let x = rename_var base c.in-Susp.x in
    alone_same bs (susp [] x) (bare_term c.args.b) _
    (λ y. c.descending.invariant.same y ∙ ap (λ (u : Term). occurs y (under bs (rename_term base (term_of u)))) c.in-Susp.is ∙ same_swapped bs (map (rename_swap base) c.in-Susp.field-0) x y) c.alone_of.ensures
