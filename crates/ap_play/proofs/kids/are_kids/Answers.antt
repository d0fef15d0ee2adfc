use Rattle.std.proofs.Common.{◌∙◌, sym}
use Rattle.ap_play.proofs.Covering.{judged}
use Rattle.ap_play.proofs.kids.are_kids.Goals as goal

pub returns : goal.returns
returns g c =
    let t = c.args.tree.now in
    judged (g.T.Tree.choices t) (g.T.Tree.at t) c.args.path.now c.args.kids.now c.in-Some.width c.in_ok-covered.covered (sym c.in_ok-width.ensures ∙ c.in-Some.is) c.in_ok-covered.ensures
