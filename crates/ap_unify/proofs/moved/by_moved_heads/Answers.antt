use Rattle.std.proofs.Common.{subst}
use Rattle.ap_defs.specs.Terms.{act_term}
use Rattle.ap_equations.specs.Plain.{plain_term}
use Rattle.ap_rules.proofs.WorkLemmas.{if_ok}
use Rattle.ap_store.specs.Views.{bindings_of, present}
use Rattle.ap_unify.proofs.MovedLemmas.{act_form, free_made, free_swaps_below, moved_left, moved_right}
use Rattle.ap_unify.proofs.PartLemmas.{head_form, head_free, nothing_below, nothing_marked}
use Rattle.ap_unify.proofs.moved.by_moved_heads.Goals as goal
use Rattle.ap_unify.specs.Moved.{moved_equation, waiting}
use Rattle.ap_unify.specs.Parts.{IsRuleFor}

pub moved_forms-requires-clause-left_form : goal.moved_forms-requires-clause-left_form
moved_forms-requires-clause-left_form c =
    (head_form (bindings_of c.args.store.now) (plain_term c.args.ahead.now.next.left) c.args.left c.requires.left c.in-Form-Form.is-0)

pub moved_forms-requires-clause-right_form : goal.moved_forms-requires-clause-right_form
moved_forms-requires-clause-right_form c =
    (head_form (bindings_of c.args.store.now) (plain_term c.args.ahead.now.next.right) c.args.right c.requires.right c.in-Form-Form.is-1)

pub returns-in-Form-Form-clause-below : goal.returns-in-Form-Form-clause-below
returns-in-Form-Form-clause-below c = c.moved_forms.ensures.below (present c.args.store.now).next c.requires.below

pub returns-in-Form-Form-clause-marks : goal.returns-in-Form-Form-clause-marks
returns-in-Form-Form-clause-marks c = c.moved_forms.ensures.marks (bindings_of c.args.store.now) c.requires.marks

-- a variable on the left
pub bind_back-requires-in-Free-Form-clause-made : goal.bind_back-requires-in-Free-Form-clause-made
bind_back-requires-in-Free-Form-clause-made c =
    let s = bindings_of c.args.store.now in
    let l = plain_term c.args.ahead.now.next.left in
    let x = c.in-Free-Form.x in
    free_made (present c.args.store.now).next (waiting c.args.sides.now.left) l x (head_free s l c.args.left x c.requires.left c.in-Free-Form.is-0).0 c.requires.below.0

pub bind_back-requires-in-Free-Form-clause-unbound : goal.bind_back-requires-in-Free-Form-clause-unbound
bind_back-requires-in-Free-Form-clause-unbound c =
    (head_free (bindings_of c.args.store.now) (plain_term c.args.ahead.now.next.left) c.args.left c.in-Free-Form.x c.requires.left c.in-Free-Form.is-0).1

pub bind_back-requires-in-Free-Form-clause-swaps : goal.bind_back-requires-in-Free-Form-clause-swaps
bind_back-requires-in-Free-Form-clause-swaps c =
    let s = bindings_of c.args.store.now in
    let l = plain_term c.args.ahead.now.next.left in
    let x = c.in-Free-Form.x in
    free_swaps_below (present c.args.store.now).next (waiting c.args.sides.now.left) l x (head_free s l c.args.left x c.requires.left c.in-Free-Form.is-0).0 c.requires.below.0

pub returns-in-Free-Form-clause-turn : goal.returns-in-Free-Form-clause-turn
returns-in-Free-Form-clause-turn c =
    let s = bindings_of c.args.store.now in
    let m = c.args.sides.now in
    let l = plain_term c.args.ahead.now.next.left in
    let r = plain_term c.args.ahead.now.next.right in
    let x = c.in-Free-Form.x in
    let f = act_form (waiting m.right) r (head_form s r c.args.right c.requires.right c.in-Free-Form.is-1) in
    let e = moved_left s (waiting m.left) x l (act_term (waiting m.right) r) (head_free s l c.args.left x c.requires.left c.in-Free-Form.is-0) f in
    if_ok c.bind_back-in-Free-Form.result (λ turn h. subst (IsRuleFor (moved_equation m) turn c.args.ahead.now s (bindings_of c.bind_back-in-Free-Form.new.store)) e (h m c.args.ahead.now)) c.bind_back-in-Free-Form.ensures.turn

pub returns-in-Free-Form-clause-below : goal.returns-in-Free-Form-clause-below
returns-in-Free-Form-clause-below c =
    if_ok c.bind_back-in-Free-Form.result (λ turn h. nothing_below (moved_equation c.args.sides.now) (present c.args.store.now).next turn c.args.ahead.now h) c.bind_back-in-Free-Form.ensures.ahead

pub returns-in-Free-Form-clause-marks : goal.returns-in-Free-Form-clause-marks
returns-in-Free-Form-clause-marks c =
    if_ok c.bind_back-in-Free-Form.result (λ turn h. nothing_marked (bindings_of c.bind_back-in-Free-Form.new.store) turn c.args.ahead.now h) c.bind_back-in-Free-Form.ensures.ahead

-- a variable on the right
pub bind_back-requires-clause-made : goal.bind_back-requires-clause-made
bind_back-requires-clause-made c =
    let s = bindings_of c.args.store.now in
    let r = plain_term c.args.ahead.now.next.right in
    let y = c.in-Form-Free.y in
    free_made (present c.args.store.now).next (waiting c.args.sides.now.right) r y (head_free s r c.args.right y c.requires.right c.in-Form-Free.is-1).0 c.requires.below.1

pub bind_back-requires-clause-unbound : goal.bind_back-requires-clause-unbound
bind_back-requires-clause-unbound c =
    (head_free (bindings_of c.args.store.now) (plain_term c.args.ahead.now.next.right) c.args.right c.in-Form-Free.y c.requires.right c.in-Form-Free.is-1).1

pub bind_back-requires-clause-swaps : goal.bind_back-requires-clause-swaps
bind_back-requires-clause-swaps c =
    let s = bindings_of c.args.store.now in
    let r = plain_term c.args.ahead.now.next.right in
    let y = c.in-Form-Free.y in
    free_swaps_below (present c.args.store.now).next (waiting c.args.sides.now.right) r y (head_free s r c.args.right y c.requires.right c.in-Form-Free.is-1).0 c.requires.below.1

pub returns-in-Form-Free-clause-turn : goal.returns-in-Form-Free-clause-turn
returns-in-Form-Free-clause-turn c =
    let s = bindings_of c.args.store.now in
    let m = c.args.sides.now in
    let l = plain_term c.args.ahead.now.next.left in
    let r = plain_term c.args.ahead.now.next.right in
    let y = c.in-Form-Free.y in
    let f = act_form (waiting m.left) l (head_form s l c.args.left c.requires.left c.in-Form-Free.is-0) in
    let e = moved_right s (waiting m.right) y (act_term (waiting m.left) l) r f (head_free s r c.args.right y c.requires.right c.in-Form-Free.is-1) in
    if_ok c.bind_back.result (λ turn h. subst (IsRuleFor (moved_equation m) turn c.args.ahead.now s (bindings_of c.bind_back.new.store)) e (h m c.args.ahead.now)) c.bind_back.ensures.turn

pub returns-in-Form-Free-clause-below : goal.returns-in-Form-Free-clause-below
returns-in-Form-Free-clause-below c =
    if_ok c.bind_back.result (λ turn h. nothing_below (moved_equation c.args.sides.now) (present c.args.store.now).next turn c.args.ahead.now h) c.bind_back.ensures.ahead

pub returns-in-Form-Free-clause-marks : goal.returns-in-Form-Free-clause-marks
returns-in-Form-Free-clause-marks c = if_ok c.bind_back.result (λ turn h. nothing_marked (bindings_of c.bind_back.new.store) turn c.args.ahead.now h) c.bind_back.ensures.ahead
