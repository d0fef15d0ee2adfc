use Rattle.ap_play.proofs.Wholes as wholes
use Rattle.ap_play.proofs.laws.stays_whole.Goals as goal

pub returns : goal.returns
returns g c = λ n some.
    let laws = g.met.T.Tree g.world.𝓛 g.world.𝓜 g.world.𝓡 ((λ s x. x), (λ x. x), (λ x. x), λ x. x) in
    let t = c.args.tree.now in wholes.stays_whole (g.T.Tree.choices t) (g.T.Tree.at t) n some (laws.branches t)
