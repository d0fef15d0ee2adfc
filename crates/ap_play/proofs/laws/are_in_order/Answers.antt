use Rattle.ap_tools.proofs.OneWorker as one
use Rattle.ap_play.proofs.laws.are_in_order.Goals as goal

pub returns : goal.returns
returns g c = one.are_in_order (g.T.Tree.choices c.args.tree.now) (g.T.Tree.at c.args.tree.now)
