use Rattle.ap_perm.specs.Closures.{closure_term}
use Rattle.ap_store.specs.Views.{bindings_of, present}
use Rattle.ap_rules.proofs.MoveLemmas.{back_absent, back_below, back_ground}
use Rattle.ap_rules.proofs.moves.bind_to.Goals as goal

pub returns-clause-fit : goal.returns-clause-fit
returns-clause-fit c =
    let s = bindings_of c.args.store.now in
    let p = c.args.p.now in
    let t = closure_term c.args.c in
    let u = closure_term c.in_ok-moved.moved in
    let e = c.in_ok-moved.ensures in (
      c.requires.made,
      c.requires.unbound,
      back_below (present c.args.store.now).next p t u c.requires.swaps c.requires.below e,
      back_absent s c.args.x p t u c.requires.absent e,
      (λ h. back_ground s p t u (c.requires.no_vars h) e),
    )
