use Rattle.ap_paths.proofs.Frontiers.{merged_whole}
use Rattle.ap_paths.proofs.laws.merges_whole.Goals as goal

pub returns : goal.returns
returns g c =
    let laws = g.met.T.Tree g.world.𝓛 g.world.𝓜 g.world.𝓡 ((λ s x. x), (λ x. x), (λ x. x), λ x. x) in
    let t = c.args.tree.now in
    λ l history legal true_of within closed. merged_whole (g.T.Tree.choices t) (g.T.Tree.at t) l history (laws.branches t) legal true_of within closed
