use Rattle.ap_tools.proofs.OwnEntries.{kids_choices}
use Rattle.ap_entering.proofs.entering.visit_planned.Goals as goal

pub returns-clause-kids : goal.returns-clause-kids
returns-clause-kids g c ks is =
    let laws = g.met.T.Tree g.world.𝓛 g.world.𝓜 g.world.𝓡 ((λ s x. x), (λ x. x), (λ x. x), λ x. x) in
    let t = c.args.tree.now in
    kids_choices (g.T.Tree.choices t) (g.T.Tree.at t) (g.T.Tree.plan t) c.args.most c.args.path.now ks (laws.planned t c.args.most c.args.path.now c.requires) is
