use Rattle.std.proofs.Common.{ap₂, subst}
use Rattle.ap_defs.specs.Unification.{rule}
use Rattle.ap_store.specs.Views.{bindings_of}
use Rattle.ap_rules.proofs.WorkLemmas.{if_ok}
use Rattle.ap_unify.proofs.parts.step_parts.Goals as goal
use Rattle.ap_unify.specs.Parts.{IsRuleFor, parts_equation}

pub by_heads-requires-clause-marks : goal.by_heads-requires-clause-marks
by_heads-requires-clause-marks c = (c.headed-left.ensures.mark c.requires.marks.0, c.headed-right.ensures.mark c.requires.marks.1)

pub returns-clause-turn : goal.returns-clause-turn
returns-clause-turn c =
    if_ok c.by_heads.result
    (λ turn h. subst (IsRuleFor parts_equation turn c.by_heads.new.ahead (bindings_of c.args.store.now) (bindings_of c.by_heads.new.store)) (ap₂ rule c.headed-left.ensures.meaning c.headed-right.ensures.meaning) h)
    c.by_heads.ensures.turn
