use Rattle.std.proofs.Common.{rules, ◌≡◌, ◌≤◌, ◌<◌, ◌^◌, ◌++◌, ◌+◌, map, refl, sym, subst, arith}
use Rattle.ap_defs.specs.Renaming.{IsBelow, rename_swap, rename_term, rename_var}
use Rattle.ap_defs.specs.Terms.{act_term, term_of}
use Rattle.ap_defs.specs.declared.terms.Term.{Term}
use Rattle.ap_perm.specs.Closures.{closure_term}
use Rattle.ap_perm.proofs.ClosureLemmas.{waiting_below}
use Rattle.ap_store.specs.Heads.{IsHeadUnbound}
use Rattle.ap_store.specs.Views.{bindings_of}
use Rattle.ap_store.proofs.FollowLemmas.{step_taken, unbound_var}
use Rattle.ap_store.proofs.following.step.Goals as goal

pub overflow_add-x : goal.overflow_add-x
overflow_add-x c =
    let b = c.args.c in
    let k = subst (λ (u : Term). IsBelow b.end (rename_term b.base (term_of u))) c.in-Susp.is b.below in
    let l : b.base + c.in-Susp.x.num < b.end = k.1 in
    omega arith

pub gone_on-requires : goal.gone_on-requires
gone_on-requires c =
    let b = c.args.c in
    let l : b.end ≤ 2 ^ 64 = omega arith in
    waiting_below (2 ^ 64) b.end b.base b.term.now c.in-Susp.q c.items.result.now c.in-Susp.x l b.below c.in-Susp.is c.items.ensures

pub returns-in_ok-gone_on-in-Some : goal.returns-in_ok-gone_on-in-Some
returns-in_ok-gone_on-in-Some c =
    let b = c.args.c in
    let d = c.in_ok-gone_on-in-Some.field-0 in
    let e : closure_term d ≡ act_term ((b.swaps.items ++ map (rename_swap b.base) c.in-Susp.q) ++ c.in-Some.bound.swaps.now) (rename_term c.in-Some.bound.base (term_of c.in-Some.bound.term.now)) = search rules in
    step_taken c.args.store.now b c.in-Some.bound d c.in-Susp.q c.in-Susp.x c.in-Susp.is e c.in-Some.ensures

pub returns-in-None : goal.returns-in-None
returns-in-None c =
    let b = c.args.c in (
      refl,
      subst (λ (u : Term). IsHeadUnbound (bindings_of c.args.store.now) (act_term b.swaps.items (rename_term b.base (term_of u)))) (sym c.in-Susp.is)
          (unbound_var c.args.store.now (rename_var b.base c.in-Susp.x) c.in-None.ensures),
    )
