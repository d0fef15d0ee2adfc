use Rattle.std.proofs.Common.{◌≡◌, subst}
use Rattle.ap_trees.specs.Symbols.{syms}
use Rattle.ap_trees.specs.Trees.{item_of}
use Rattle.ap_syntax.specs.Reading.{item_or_fault, GivesOneOf}
use Rattle.ap_syntax.proofs.Fronts.{front_given, front_unended}
use Rattle.ap_syntax.proofs.front.item_of_front.Goals as goal

pub returns-then-not-front : goal.returns-then-not-front
returns-then-not-front c = λ all h. rw c.fault.ensures (front_unended c.args.number c.args.front all h c.if-not-front.true)

pub returns : goal.returns
returns c = λ all h.
    let given = subst (λ ss. GivesOneOf item_of c.form_item.result (λ r. r ≡ item_or_fault c.args.number c.args.front.line (syms ss))) c.deref.ensures.value c.form_item.ensures in
    front_given item_of c.form_item.result c.args.number c.args.front all h c.if-not-front.false given
