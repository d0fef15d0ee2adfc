use Rattle.std.proofs.Common.{◌++◌, [], ◌∷◌, ap, ◌∙◌, arith}
use Rattle.ap_checks.specs.OpenEnvironments.{swap_in}
use Rattle.ap_judge.specs.Scopes.{environment_of}
use Rattle.ap_judge.proofs.ScopeLemmas.{mapped_next}
use Rattle.ap_judge.proofs.scope.put_swaps.Goals as goal

pub loop-s-preserved : goal.loop-s-preserved
loop-s-preserved c =
    mapped_next (swap_in (environment_of c.args.scope.now)) c.args.swaps.now c.loop-s.s-index _ c.loop-s.all.items c.push.new.self.items (omega arith) c.loop-s.invariant
    (c.in_ok-push.ensures.items ∙ ap (λ v. c.loop-s.all.items ++ v ∷ []) c.put_swap.ensures)
