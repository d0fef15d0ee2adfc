use Rattle.std.proofs.Common.{rules, true≢false, ◌≡◌, ◌<◌, subst, List, [], ap, sym, ◌∙◌, arith}
use Rattle.std.proofs.lemmas.List.{nil_from_length}
use Rattle.std.specs.Prelude.{Some}
use Rattle.ap_defs.specs.Renaming.{rename_term}
use Rattle.ap_defs.specs.Terms.{act_term, term_of}
use Rattle.ap_defs.specs.declared.terms.Swap.{Swap}
use Rattle.ap_perm.specs.Closures.{closure_term}
use Rattle.ap_perm.specs.declared.closures.Closure.{Closure}
use Rattle.ap_theory.specs.Variables.{EachVar}
use Rattle.ap_theory.proofs.TermLemmas.{act_term_none, number_same}
use Rattle.ap_store.proofs.ReachLemmas.{closure_vars}
use Rattle.ap_store.proofs.slots.value_of.Goals as goal

pub returns-then-c-clause-term : goal.returns-then-c-clause-term
returns-then-c-clause-term c =
    let n = number_same _ 0 (sym c.is_empty.ensures ∙ c.if-is_empty.true) in
    let e : c.args.c.swaps.items ≡ [] = nil_from_length c.args.c.swaps.items (omega (arith, n)) in
    let t = rename_term c.args.c.base (term_of c.args.c.term.now) in
    c.plain_value.ensures.term ∙ ap Some (sym (act_term_none t) ∙ ap (λ (p : List Swap). act_term p t) (sym e))

pub returns-clause-below : goal.returns-clause-below
returns-clause-below c =
    let e : c.in_ok-moved.moved.value ≡ c.args.c = search rules in
    subst (λ (d : Closure). EachVar (λ y. y.num < c.args.c.end) (closure_term d)) (sym e) (closure_vars c.args.c)

pub returns-then-c-clause-below : goal.returns-then-c-clause-below
returns-then-c-clause-below c = c.plain_value.ensures.below c.args.c.end c.args.c.below

pub returns-then-c-clause-mark : goal.returns-then-c-clause-mark
returns-then-c-clause-mark c = λ h. sym c.plain_value.ensures.mark ∙ h

pub returns-clause-mark : goal.returns-clause-mark
returns-clause-mark c = λ h. absurd (true≢false (sym h))
