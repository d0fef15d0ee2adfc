use Rattle.std.proofs.Common.{◌∙◌, sym}
use Rattle.std.specs.Prelude.{◌==◌}
use Rattle.std.proofs.lemmas.Result.{on_ok_weaker}
use Rattle.ap_types.specs.Rules.{all_are_in}
use Rattle.ap_types.proofs.RuleLemmas.{adds_none, adds_same, no_needs, same_numbers, other_numbers}
use Rattle.ap_types.proofs.rounds.add_names.Goals as goal

pub returns-then-other-sort : goal.returns-then-other-sort
returns-then-other-sort c = adds_none c.args.rules.now.items (λ p. c.args.other == c.args.sort) c.args.gives (λ p. other_numbers c.args.other c.args.sort c.if-other-sort.true)

pub returns : goal.returns
returns c =
    on_ok_weaker c.add_rule.result
    (adds_same c.args.rules.now.items c.add_rule.new.rules.items (λ p. all_are_in p c.new.result.items) (λ p. c.args.other == c.args.sort) c.args.gives
    (λ p. no_needs p c.new.result.items c.new.ensures.items ∙ sym (same_numbers c.args.other c.args.sort c.if-other-sort.false)))
    c.add_rule.ensures
