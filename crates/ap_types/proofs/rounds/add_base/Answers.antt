use Rattle.std.proofs.lemmas.Result.{on_ok_weaker}
use Rattle.ap_types.specs.Rules.{all_are_in}
use Rattle.ap_types.proofs.RuleLemmas.{adds_same, one_need}
use Rattle.ap_types.proofs.rounds.add_base.Goals as goal

pub returns : goal.returns
returns c =
    on_ok_weaker c.add_rule.result
    (adds_same c.args.rules.now.items c.add_rule.new.rules.items (λ p. all_are_in p c.in_ok-vec.field-0.items) (λ p. p c.args.base) c.args.gives
    (λ p. one_need p c.in_ok-vec.field-0.items c.args.base c.in_ok-vec.ensures.items))
    c.add_rule.ensures
