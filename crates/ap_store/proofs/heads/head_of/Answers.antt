use Rattle.std.proofs.Common.{◌<◌, ◌+◌, ◌++◌, [], map, sym, subst, arith}
use Rattle.ap_defs.specs.Renaming.{IsBelow, rename_swap, rename_term, rename_var}
use Rattle.ap_defs.specs.Substitution.{under}
use Rattle.ap_defs.specs.Terms.{act_term, susp, term_of}
use Rattle.ap_defs.specs.declared.terms.Term.{Term}
use Rattle.ap_store.specs.Heads.{IsAtHead}
use Rattle.ap_store.specs.Views.{bindings_of}
use Rattle.ap_store.proofs.HeadLemmas.{head_same, suspension_alike}
use Rattle.ap_store.proofs.heads.head_of.Goals as goal

pub overflow_add-x : goal.overflow_add-x
overflow_add-x c =
    let b = c.args.c.now in
    let k = subst (λ (u : Term). IsBelow b.end (rename_term b.base (term_of u))) c.in-Susp.is b.below in
    let l : b.base + c.in-Susp.x.num < b.end = k.1 in
    omega arith

pub returns-in-Susp : goal.returns-in-Susp
returns-in-Susp c =
    let s = c.args.store.now in
    let bs = bindings_of s in
    let b = c.args.c.now in
    let x = rename_var b.base c.in-Susp.x in
    let p = b.swaps.items ++ map (rename_swap b.base) c.in-Susp.field-0 in
    subst (λ (u : Term). IsAtHead bs (under bs (act_term b.swaps.items (rename_term b.base (term_of u)))) c.head_at.result) (sym c.in-Susp.is)
    (head_same bs (under bs (susp p x)) (under bs (susp [] x)) c.head_at.result (suspension_alike s p x).1 c.head_at.ensures)
