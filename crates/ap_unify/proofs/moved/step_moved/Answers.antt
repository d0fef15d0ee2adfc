use Rattle.ap_unify.specs.Parts.{IsRuleFor}
use Rattle.std.proofs.Common.{ap₂, subst}
use Rattle.ap_defs.specs.Unification.{rule}
use Rattle.ap_equations.specs.Plain.{plain_term}
use Rattle.ap_rules.proofs.WorkLemmas.{if_ok}
use Rattle.ap_store.specs.Views.{bindings_of}
use Rattle.ap_unify.proofs.MovedLemmas.{act_under}
use Rattle.ap_unify.proofs.moved.step_moved.Goals as goal
use Rattle.ap_unify.specs.Moved.{moved_equation, waiting}

pub by_moved_heads-requires-clause-below : goal.by_moved_heads-requires-clause-below
by_moved_heads-requires-clause-below c =
    (c.head_within-left.ensures.below (waiting c.args.sides.now.left) c.requires.below.0, c.head_within-right.ensures.below (waiting c.args.sides.now.right) c.requires.below.1)

pub by_moved_heads-requires-clause-marks : goal.by_moved_heads-requires-clause-marks
by_moved_heads-requires-clause-marks c = (c.head_within-left.ensures.mark c.requires.marks.0, c.head_within-right.ensures.mark c.requires.marks.1)

pub returns-clause-turn : goal.returns-clause-turn
returns-clause-turn c =
    let s = bindings_of c.args.store.now in
    let l = act_under s (waiting c.args.sides.now.left) (plain_term c.args.ahead.now.next.left) (plain_term c.head_within-left.result.part) c.head_within-left.ensures.meaning in
    let r = act_under s (waiting c.args.sides.now.right) (plain_term c.args.ahead.now.next.right) (plain_term c.head_within-right.result.part) c.head_within-right.ensures.meaning in
    if_ok c.by_moved_heads.result
    (λ turn h. subst (IsRuleFor (moved_equation c.args.sides.now) turn c.by_moved_heads.new.ahead s (bindings_of c.by_moved_heads.new.store)) (ap₂ rule l r) h)
    c.by_moved_heads.ensures.turn
