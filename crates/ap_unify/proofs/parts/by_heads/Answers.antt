use Rattle.std.proofs.Common.{subst}
use Rattle.ap_store.specs.Views.{bindings_of, present}
use Rattle.ap_unify.proofs.PartLemmas.{bound_left, bound_right, head_form, head_free, nothing_below, nothing_marked}
use Rattle.ap_rules.proofs.WorkLemmas.{if_ok}
use Rattle.ap_unify.proofs.parts.by_heads.Goals as goal
use Rattle.ap_unify.specs.Parts.{IsRuleFor, parts_equation}
use Rattle.ap_equations.specs.Plain.{plain_term}

pub returns-in-Form-Free-clause-turn : goal.returns-in-Form-Free-clause-turn
returns-in-Form-Free-clause-turn c =
    let s = bindings_of c.args.store.now in
    let l = plain_term c.args.ahead.now.next.left in
    let r = plain_term c.args.ahead.now.next.right in
    let y = c.in-Form-Free.y in
    if_ok c.bind_unless_occurs.result
    (λ turn h. subst (IsRuleFor parts_equation turn c.args.ahead.now s (bindings_of c.bind_unless_occurs.new.store))
    (bound_right s y l r (head_form s l c.args.left c.requires.left c.in-Form-Free.is-0) (head_free s r c.args.right y c.requires.right c.in-Form-Free.is-1)) (h c.args.ahead.now))
    c.bind_unless_occurs.ensures.turn

pub returns-in-Free-Form-clause-turn : goal.returns-in-Free-Form-clause-turn
returns-in-Free-Form-clause-turn c =
    let s = bindings_of c.args.store.now in
    let l = plain_term c.args.ahead.now.next.left in
    let r = plain_term c.args.ahead.now.next.right in
    let x = c.in-Free-Form.x in
    if_ok c.bind_unless_occurs-in-Free-Form.result
    (λ turn h. subst (IsRuleFor parts_equation turn c.args.ahead.now s (bindings_of c.bind_unless_occurs-in-Free-Form.new.store))
    (bound_left s x l r (head_free s l c.args.left x c.requires.left c.in-Free-Form.is-0) (head_form s r c.args.right c.requires.right c.in-Free-Form.is-1)) (h c.args.ahead.now))
    c.bind_unless_occurs-in-Free-Form.ensures.turn

pub bind_unless_occurs-requires-clause-mark : goal.bind_unless_occurs-requires-clause-mark
bind_unless_occurs-requires-clause-mark c = c.requires.marks.0

pub bind_unless_occurs-requires-in-Free-Form-clause-mark : goal.bind_unless_occurs-requires-in-Free-Form-clause-mark
bind_unless_occurs-requires-in-Free-Form-clause-mark c = c.requires.marks.1

pub forms-requires-clause-left_form : goal.forms-requires-clause-left_form
forms-requires-clause-left_form c = head_form (bindings_of c.args.store.now) (plain_term c.args.ahead.now.next.left) c.args.left c.requires.left c.in-Form-Form.is-0

pub forms-requires-clause-right_form : goal.forms-requires-clause-right_form
forms-requires-clause-right_form c = head_form (bindings_of c.args.store.now) (plain_term c.args.ahead.now.next.right) c.args.right c.requires.right c.in-Form-Form.is-1

pub returns-in-Form-Form-clause-below : goal.returns-in-Form-Form-clause-below
returns-in-Form-Form-clause-below c = c.forms.ensures.below (present c.args.store.now).next c.requires.below

pub returns-in-Form-Form-clause-marks : goal.returns-in-Form-Form-clause-marks
returns-in-Form-Form-clause-marks c = c.forms.ensures.marks (bindings_of c.args.store.now) c.requires.marks

pub returns-in-Form-Free-clause-below : goal.returns-in-Form-Free-clause-below
returns-in-Form-Free-clause-below c =
    if_ok c.bind_unless_occurs.result (λ turn h. nothing_below parts_equation (present c.args.store.now).next turn c.args.ahead.now h) c.bind_unless_occurs.ensures.ahead

pub returns-in-Form-Free-clause-marks : goal.returns-in-Form-Free-clause-marks
returns-in-Form-Free-clause-marks c =
    if_ok c.bind_unless_occurs.result (λ turn h. nothing_marked (bindings_of c.bind_unless_occurs.new.store) turn c.args.ahead.now h) c.bind_unless_occurs.ensures.ahead

pub returns-in-Free-Form-clause-below : goal.returns-in-Free-Form-clause-below
returns-in-Free-Form-clause-below c =
    if_ok c.bind_unless_occurs-in-Free-Form.result (λ turn h. nothing_below parts_equation (present c.args.store.now).next turn c.args.ahead.now h) c.bind_unless_occurs-in-Free-Form.ensures.ahead

pub returns-in-Free-Form-clause-marks : goal.returns-in-Free-Form-clause-marks
returns-in-Free-Form-clause-marks c =
    if_ok c.bind_unless_occurs-in-Free-Form.result (λ turn h. nothing_marked (bindings_of c.bind_unless_occurs-in-Free-Form.new.store) turn c.args.ahead.now h) c.bind_unless_occurs-in-Free-Form.ensures.ahead

pub returns-in-Free-Free-clause-turn : goal.returns-in-Free-Free-clause-turn
returns-in-Free-Free-clause-turn c = if_ok c.variables.result (λ turn h. h c.args.ahead.now) c.variables.ensures.turn

pub returns-in-Free-Free-clause-below : goal.returns-in-Free-Free-clause-below
returns-in-Free-Free-clause-below c = if_ok c.variables.result (λ turn h. nothing_below parts_equation (present c.args.store.now).next turn c.args.ahead.now h) c.variables.ensures.ahead

pub returns-in-Free-Free-clause-marks : goal.returns-in-Free-Free-clause-marks
returns-in-Free-Free-clause-marks c = if_ok c.variables.result (λ turn h. nothing_marked (bindings_of c.variables.new.store) turn c.args.ahead.now h) c.variables.ensures.ahead
