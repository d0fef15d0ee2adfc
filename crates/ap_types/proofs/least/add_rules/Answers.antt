use Rattle.std.proofs.Common.{◌≡◌, ◌<◌, ◌∙◌, ◌∷◌, ◌+◌, [], List, length, ap, sym, subst, arith}
use Rattle.ap_types.specs.declared.least.Rule.{Rule}
use Rattle.ap_types.specs.Rules.{QuestionStands, rules_weight, rule_weight, later_weight}
use Rattle.ap_types.proofs.RuleLemmas.{weight_append, no_rules}
use Rattle.ap_types.proofs.least.add_rules.Goals as goal

pub loop-rule-smaller : goal.loop-rule-smaller
loop-rule-smaller c =
    let rest = c.pop.new.self.items in
    let rule = c.in-Some.rule in
    let next = c.in_ok-next.next in
    let before : rules_weight c.loop-rule.left.items ≡ rules_weight rest + rules_weight (rule ∷ []) = ap rules_weight c.in-Some.ensures.items ∙ weight_append rest (rule ∷ []) in
    let after : rules_weight c.append.new.self.items ≡ rules_weight rest + rules_weight next.items = ap rules_weight c.in_ok-append.ensures.items ∙ weight_append rest next.items in
    let lighter : rules_weight next.items + later_weight c.look_at.new.least.waiting.items < rule_weight rule + later_weight c.loop-rule.least.waiting.items = c.in_ok-next.ensures.lighter in
    let smaller : rules_weight c.append.new.self.items + later_weight c.look_at.new.least.waiting.items < rules_weight c.loop-rule.left.items + later_weight c.loop-rule.least.waiting.items = omega (arith, before, after, lighter) in
    smaller

pub loop-rule-preserved : goal.loop-rule-preserved
loop-rule-preserved c question cs h =
    let rest = c.pop.new.self.items in
    let left = subst (λ (rs : List Rule). QuestionStands question cs rs c.loop-rule.least) c.in-Some.ensures.items (c.loop-rule.invariant question cs h) in
    subst (λ (rs : List Rule). QuestionStands question cs rs c.look_at.new.least) (sym c.in_ok-append.ensures.items) (c.in_ok-next.ensures.leads rest question cs left)

pub returns : goal.returns
returns c question cs h =
    let none : length c.loop-rule.left.items ≡ 0 = omega (arith, c.in_default.ensures.cases, c.loop-rule.left.ok.0) in
    subst (λ (rs : List Rule). QuestionStands question cs rs c.loop-rule.least) (no_rules c.loop-rule.left.items none) (c.loop-rule.invariant question cs h)
