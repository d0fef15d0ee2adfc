use Rattle.std.proofs.Common.{◌<◌, ◌+◌, sym, subst, arith}
use Rattle.ap_defs.specs.Renaming.{IsBelow, rename_term, rename_var}
use Rattle.ap_defs.specs.Terms.{act_term, term_of}
use Rattle.ap_defs.specs.declared.terms.Term.{Term}
use Rattle.ap_store.specs.Heads.{IsHeadUnbound}
use Rattle.ap_store.specs.Views.{bindings_of}
use Rattle.ap_store.proofs.FollowLemmas.{unbound_var}
use Rattle.ap_store.proofs.following.waiting_at_head.Goals as goal

pub overflow_add-x : goal.overflow_add-x
overflow_add-x c =
    let b = c.args.c.now in
    let k = subst (λ (u : Term). IsBelow b.end (rename_term b.base (term_of u))) c.in-Susp.is b.below in
    let l : b.base + c.in-Susp.x.num < b.end = k.1 in
    omega arith

pub returns-in-None : goal.returns-in-None
returns-in-None c =
    let b = c.args.c.now in
    subst (λ (u : Term). IsHeadUnbound (bindings_of c.args.store.now) (act_term b.swaps.items (rename_term b.base (term_of u)))) (sym c.in-Susp.is)
    (unbound_var c.args.store.now (rename_var b.base c.in-Susp.x) c.in-None.ensures)
