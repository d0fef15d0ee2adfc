use Rattle.std.proofs.Common.{◌≡◌, ◌<◌, ◌∙◌, sym, ap, subst}
use Rattle.ap_defs.specs.Terms.{susp}
use Rattle.ap_defs.specs.declared.terms.Var.{Var}
use Rattle.ap_perm.specs.Closures.{closure_term, opened_term}
use Rattle.ap_store.specs.Views.{bindings_of, meaning_in, present}
use Rattle.ap_rules.proofs.SuspensionLemmas.{head_var_below, swaps_there, var_there}
use Rattle.ap_rules.proofs.moves.swaps_of.Goals as goal

pub returns-clause-all : goal.returns-clause-all
returns-clause-all c =
    let t = closure_term c.in_ok-head.head in
    let q = c.in-Susp.swaps.items in
    let e : t ≡ susp q c.in-Susp.field-1 = sym c.in_ok-swaps.ensures ∙ ap opened_term c.in-Susp.is in
    swaps_there (bindings_of c.args.store.now) t (meaning_in c.args.store.now c.args.c) c.args.x c.requires.head c.in_ok-head.ensures.term q c.in-Susp.field-1 e c.in_ok-head.ensures.head

pub returns-clause-made : goal.returns-clause-made
returns-clause-made c =
    let n = (present c.args.store.now).next in
    let t = closure_term c.in_ok-head.head in
    let q = c.in-Susp.swaps.items in
    let e : t ≡ susp q c.in-Susp.field-1 = sym c.in_ok-swaps.ensures ∙ ap opened_term c.in-Susp.is in
    let same = var_there (bindings_of c.args.store.now) t (meaning_in c.args.store.now c.args.c) c.args.x c.requires.head c.in_ok-head.ensures.term q c.in-Susp.field-1 e c.in_ok-head.ensures.head in
    subst (λ (y : Var). y.num < n) (sym same) (head_var_below n t q c.in-Susp.field-1 e (c.in_ok-head.ensures.below c.requires.below))
