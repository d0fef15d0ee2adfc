use Rattle.std.proofs.Common.{◌≡◌, ◌∙◌, ◌++◌, ◌∷◌, ◌+◌, [], ap, sym, arith, length, length-append, set}
use Rattle.ap_types.specs.Rules.{rules_weight, later_weight}
use Rattle.ap_types.proofs.RuleLemmas.{rules_there, rules_set_same, rules_set_other, later_set, weight_append}
use Rattle.ap_types.proofs.least.wait.Goals as goal

pub returns-clause-here : goal.returns-clause-here
returns-clause-here c =
    let vs = c.room_to_wait.new.waiting.items in
    let room = c.in_ok-room_to_wait.ensures in
    let there = rules_there vs c.args.base c.index_mut.result.now room.room c.index_mut.ensures.value in
    rules_set_same vs c.args.base c.push.new.self room.room ∙ c.in_ok-push.ensures.items ∙ ap (λ rs. rs ++ c.args.rule ∷ []) (sym there ∙ room.same.waiting c.args.base)

pub returns-clause-others : goal.returns-clause-others
returns-clause-others c d n = rules_set_other c.room_to_wait.new.waiting.items c.args.base c.push.new.self d n ∙ c.in_ok-room_to_wait.ensures.same.waiting d

pub returns-clause-weight : goal.returns-clause-weight
returns-clause-weight c =
    let vs = c.room_to_wait.new.waiting.items in
    let room = c.in_ok-room_to_wait.ensures in
    let old = c.index_mut.result.now.items in
    let rule = c.args.rule in
    let new = c.push.new.self.items in
    let changed : later_weight (set vs c.args.base c.push.new.self) + (rules_weight old + length old) ≡ later_weight vs + (rules_weight new + length new) = later_set vs c.args.base c.index_mut.result.now c.push.new.self room.room c.index_mut.ensures.value in
    let longer : length new ≡ length old + 1 = ap length c.in_ok-push.ensures.items ∙ length-append old (rule ∷ []) in
    let heavier : rules_weight new ≡ rules_weight old + rules_weight (rule ∷ []) = ap rules_weight c.in_ok-push.ensures.items ∙ weight_append old (rule ∷ []) in
    let same : later_weight vs ≡ later_weight c.args.waiting.now.items = room.same.weight in
    omega (arith, changed, longer, heavier, same)
