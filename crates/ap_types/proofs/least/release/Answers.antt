use Rattle.std.proofs.Common.{◌≡◌, ◌<◌, ◌∙◌, ◌+◌, ap, sym, arith, length, set}
use Rattle.ap_types.specs.Rules.{rules_weight, later_weight}
use Rattle.ap_types.proofs.RuleLemmas.{rules_there, rules_past, rules_set_same, rules_set_other, later_set}
use Rattle.ap_types.proofs.least.release.Goals as goal

pub returns-then-len-place-clause-given : goal.returns-then-len-place-clause-given
returns-then-len-place-clause-given c = c.new.ensures.items ∙ sym (rules_past c.args.waiting.now.items c.args.base (omega arith))

pub returns-then-len-place-clause-here : goal.returns-then-len-place-clause-here
returns-then-len-place-clause-here c = rules_past c.args.waiting.now.items c.args.base (omega arith)

pub returns-clause-given : goal.returns-clause-given
returns-clause-given c =
    let within : c.args.base < length c.args.waiting.now.items = omega arith in
    ap (λ v. v.items) c.replace.ensures.value ∙ sym (rules_there c.args.waiting.now.items c.args.base c.index_mut.result.now within c.index_mut.ensures.value)

pub returns-clause-here : goal.returns-clause-here
returns-clause-here c =
    let within : c.args.base < length c.args.waiting.now.items = omega arith in
    rules_set_same c.args.waiting.now.items c.args.base c.replace.new.dest within ∙ ap (λ v. v.items) c.replace.ensures.after ∙ c.new-2.ensures.items

pub returns-clause-others : goal.returns-clause-others
returns-clause-others c = rules_set_other c.args.waiting.now.items c.args.base c.replace.new.dest

pub returns-clause-weight : goal.returns-clause-weight
returns-clause-weight c =
    let vs = c.args.waiting.now.items in
    let within : c.args.base < length vs = omega arith in
    let old = c.index_mut.result.now in
    let new = c.replace.new.dest in
    let changed : later_weight (set vs c.args.base new) + (rules_weight old.items + length old.items) ≡ later_weight vs + (rules_weight new.items + length new.items) = later_set vs c.args.base old new within c.index_mut.ensures.value in
    let empty : rules_weight new.items + length new.items ≡ 0 = ap (λ rs. rules_weight rs + length rs) (ap (λ v. v.items) c.replace.ensures.after ∙ c.new-2.ensures.items) in
    let given : rules_weight c.replace.result.items + length c.replace.result.items ≡ rules_weight old.items + length old.items = ap (λ v. rules_weight v.items + length v.items) c.replace.ensures.value in
    omega (arith, changed, empty, given)
