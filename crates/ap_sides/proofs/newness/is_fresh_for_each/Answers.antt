use Rattle.std.proofs.Common.{sym, ◌∙◌, arith}
use Rattle.ap_judge.specs.Scopes.{environment_of}
use Rattle.ap_sides.proofs.BroughtLemmas.{var_brought, var_fresh}
use Rattle.ap_sides.proofs.newness.is_fresh_for_each.Goals as goal
use Rattle.ap_sides.proofs.newness.is_fresh_for_each.Goals.{else-not-is_var_brought-via-then-not-is_var_brought+in_ok-is_fresh_for+else-not-branch, else-not-is_var_brought-via-else-not-is_var_brought}

pub loop-x-preserved : goal.loop-x-preserved
loop-x-preserved c =
    elim c.else-not-is_var_brought.branch [
      | else-not-is_var_brought-via-then-not-is_var_brought+in_ok-is_fresh_for+else-not-branch w ↦
          var_fresh c.args.answer.now.conds (environment_of c.args.scope.now) c.args.c c.args.brought.now c.args.vars.now c.loop-x.x-index _ (omega arith) (sym w.in_ok-is_fresh_for.ensures ∙ w.if-not-branch.false)
          ∙ c.loop-x.invariant
      | else-not-is_var_brought-via-else-not-is_var_brought w ↦
          var_brought c.args.answer.now.conds (environment_of c.args.scope.now) c.args.c c.args.brought.now c.args.vars.now c.loop-x.x-index _ (omega arith) (sym c.is_var_brought.ensures ∙ w.if-not-is_var_brought.false)
          ∙ c.loop-x.invariant
    ]
