use Rattle.ap_store.specs.Views.{bindings_of}
use Rattle.ap_equations.specs.Plain.{plain_term}
use Rattle.ap_equations.specs.declared.plain.PlainPair.{PlainPair}
use Rattle.ap_unify.proofs.PartLemmas.{head_form, head_free}
use Rattle.ap_unify.proofs.SameLemmas.{makes_same, makes_same_for, same_variable}
use Rattle.ap_unify.proofs.settled.look_further.Goals as goal

pub forms-requires-clause-left_form : goal.forms-requires-clause-left_form
forms-requires-clause-left_form c = head_form (bindings_of c.args.store.now) (plain_term c.headed-left.result.part) c.headed-left.result.head c.headed-left.ensures.head c.in-Form-Form.is-0

pub forms-requires-clause-right_form : goal.forms-requires-clause-right_form
forms-requires-clause-right_form c = head_form (bindings_of c.args.store.now) (plain_term c.headed-right.result.part) c.headed-right.result.head c.headed-right.ensures.head c.in-Form-Form.is-1

pub returns-in-Form-Form : goal.returns-in-Form-Form
returns-in-Form-Form c =
    let s = bindings_of c.args.store.now in
    let p : PlainPair = record { left = c.headed-left.result.part; right = c.headed-right.result.part } in
    let l = head_form s (plain_term p.left) c.headed-left.result.head c.headed-left.ensures.head c.in-Form-Form.is-0 in
    let r = head_form s (plain_term p.right) c.headed-right.result.head c.headed-right.ensures.head c.in-Form-Form.is-1 in
    makes_same_for s c.forms.result c.forms.new.ahead c.args.ahead.now.next p c.headed-left.ensures.meaning c.headed-right.ensures.meaning
    (makes_same s c.forms.result c.forms.new.ahead p l r (c.forms.ensures.turn s))

pub returns-then-x-y : goal.returns-then-x-y
returns-then-x-y c =
    let s = bindings_of c.args.store.now in
    let l = head_free s (plain_term c.headed-left.result.part) c.headed-left.result.head c.in-Free-Free.x c.headed-left.ensures.head c.in-Free-Free.is-0 in
    let r = head_free s (plain_term c.headed-right.result.part) c.headed-right.result.head c.in-Free-Free.y c.headed-right.ensures.head c.in-Free-Free.is-1 in
    same_variable s c.args.ahead.now.next c.in-Free-Free.x c.in-Free-Free.y (plain_term c.headed-left.result.part) (plain_term c.headed-right.result.part)
    c.headed-left.ensures.meaning c.headed-right.ensures.meaning l.0 r.0 c.if-x-y.true
