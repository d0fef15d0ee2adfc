use Rattle.ap_types.proofs.RuleLemmas.{adds_rule}
use Rattle.ap_types.proofs.rounds.add_rule.Goals as goal

pub returns : goal.returns
returns c = adds_rule c.args.rules.now.items c.push.new.self.items (record { gives = c.args.gives; needs = c.args.needs }) c.in_ok-push.ensures.items
