use Rattle.std.proofs.Common.{sym, ap, ◌++◌, ◌∙◌, arith}
use Rattle.ap_defs.specs.Goals.{goal_of}
use Rattle.ap_derive.specs.Uses.{uses}
use Rattle.ap_derive.specs.Waiting.{bare_derivation, if_any, uses_of_all, weight_of_all}
use Rattle.ap_derive.specs.declared.counting.walk.Waiting.{Waiting}
use Rattle.ap_derive.proofs.WaitingLemmas.{last_first, last_weight}
use Rattle.ap_derive.proofs.counting.walk.wait_for.Goals as goal

pub returns-in_ok-push-clause-uses : goal.returns-in_ok-push-clause-uses
returns-in_ok-push-clause-uses c program =
    let w : Waiting = record { goal = c.in-Some.goal; derivation = c.args.derivation } in
    let old = c.args.waiting.now.items in
    ap (uses_of_all program) c.in_ok-push.ensures.items ∙ last_first program old w
    ∙ ap (λ o. if_any o (λ g. uses program (bare_derivation c.args.derivation.now) (goal_of g.now)) ++ uses_of_all program old) (sym c.in-Some.is)

pub returns-in_ok-push-clause-weight : goal.returns-in_ok-push-clause-weight
returns-in_ok-push-clause-weight c =
    let w : Waiting = record { goal = c.in-Some.goal; derivation = c.args.derivation } in
    let more = ap weight_of_all c.in_ok-push.ensures.items ∙ last_weight c.args.waiting.now.items w in
    omega (arith, more)
