use Rattle.ap_unparse.proofs.GoalSteps.{arguments_written}
use Rattle.ap_unparse.proofs.goals.write_arguments.Goals as goal

pub returns : goal.returns
returns c =
    arguments_written c.args.terms.now c.first-item.result c.args.out.now.items c.push.new.self.items c.write_tree.new.out.items c.write_further.new.out.items c.push-2.new.self.items
    c.in-len1-up.len_at_least c.first-item.is c.in_ok-push.ensures.items c.in_ok-write_tree.ensures c.in_ok-write_further.ensures c.in_ok-push-2.ensures.items
