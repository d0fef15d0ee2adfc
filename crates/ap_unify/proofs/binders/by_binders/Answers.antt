use Rattle.std.proofs.Common.{sym, ◌∙◌}
use Rattle.ap_defs.specs.Terms.{act_term}
use Rattle.ap_equations.specs.Plain.{plain_term}
use Rattle.ap_rules.specs.Work.{equations_left, problems_met}
use Rattle.ap_unify.proofs.BinderLemmas.{exchanged_below, exchanged_stage, same_binders}
use Rattle.ap_unify.proofs.binders.by_binders.Goals as goal
use Rattle.ap_unify.specs.Moved.{waiting}

pub returns-then-is_same-clause-stage : goal.returns-then-is_same-clause-stage
returns-then-is_same-clause-stage c = λ s.
    let m = c.args.sides.now in
    let p = c.args.bodies in
    same_binders s c.args.a c.args.b (act_term (waiting m.left) (plain_term p.left)) (act_term (waiting m.right) (plain_term p.right))
    (equations_left c.args.work.now) (problems_met c.args.work.now) (sym c.is_same.ensures ∙ c.if-is_same.true)

pub returns-in_ok-exchange-clause-stage : goal.returns-in_ok-exchange-clause-stage
returns-in_ok-exchange-clause-stage c =
    exchanged_stage c.args.sides.now c.exchange.new.sides c.args.a c.args.b c.args.bodies c.exchange.ensures.left c.in_ok-exchange.ensures.right c.args.work.now c.exchange.new.work
    c.exchange.ensures.equations c.in_ok-exchange.ensures.problems (sym c.is_same.ensures ∙ c.if-is_same.false) c.if-a-b.true

pub returns-in_ok-exchange-clause-below : goal.returns-in_ok-exchange-clause-below
returns-in_ok-exchange-clause-below c =
    exchanged_below c.args.sides.now c.exchange.new.sides c.args.a c.args.b c.args.bodies c.exchange.ensures.left c.in_ok-exchange.ensures.right
