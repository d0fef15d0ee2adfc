use Rattle.ap_tools.proofs.Permitted.{is_permitted}
use Rattle.ap_play.proofs.laws.are_permitted.Goals as goal

pub returns : goal.returns
returns g c = λ n two history legal true_of quiet seats. is_permitted (g.T.Tree.choices c.args.tree.now) (g.T.Tree.at c.args.tree.now) n history two legal true_of quiet seats
