use Rattle.std.proofs.Common.{[], ap₂, subst, sym, ◌∙◌}
use Rattle.ap_defs.specs.Substitution.{◌≐◌}
use Rattle.ap_defs.specs.Terms.{act_term, susp}
use Rattle.ap_theory.proofs.TermLemmas.{var_same}
use Rattle.ap_unify.proofs.SolvedLemmas.{known_between}
use Rattle.ap_unify.proofs.solved.are_these.Goals as goal
use Rattle.ap_unify.specs.Moved.{waiting}
use Rattle.ap_unify.specs.Solved.{IsSolvedIn}

pub returns : goal.returns
returns c =
    let e = c.args.e.now in
    let m = c.args.sides.now in
    let x = var_same e.x c.args.x (sym c.is_same.ensures ∙ c.if-not-is_same.false) in
    let y = var_same e.y c.args.y (sym c.is_same-2.ensures ∙ c.if-not-is_same-2.false) in
    λ r k h.
    let i = subst (IsSolvedIn r) (ap₂ (λ v w. susp [] v ≐ act_term e.swaps.items (susp [] w)) x y) h in
    known_between (waiting m.left) (waiting m.right) (susp [] c.args.x) (susp [] c.args.y) r e.swaps.items
    (sym c.deref.ensures.value ∙ c.are_one.ensures k ∙ c.deref-2.ensures.value ∙ c.in_ok-swaps.ensures) i
