use Rattle.ap_tools.proofs.Whole.{whole_of}
use Rattle.ap_tools.proofs.Sole.{permitted_of}
use Rattle.ap_steal.proofs.searching.search_within.Goals as goal

pub returns-clause-whole : goal.returns-clause-whole
returns-clause-whole g c =
    let laws = g.met.T.Tree g.world.𝓛 g.world.𝓜 g.world.𝓡 ((λ s x. x), (λ x. x), (λ x. x), λ x. x) in
    let t = c.args.tree.now in
    whole_of (g.T.Tree.choices t) (g.T.Tree.at t) (g.T.Tree.plan t) c.args.limit c.search_in.result (laws.branches t) (laws.planned t) c.search_in.ensures.legal c.search_in.ensures.planned c.search_in.ensures.within

pub returns-clause-permitted : goal.returns-clause-permitted
returns-clause-permitted g c =
    let laws = g.met.T.Tree g.world.𝓛 g.world.𝓜 g.world.𝓡 ((λ s x. x), (λ x. x), (λ x. x), λ x. x) in
    let t = c.args.tree.now in
    let e = c.search_in.ensures in
    permitted_of (g.T.Tree.choices t) (g.T.Tree.at t) (g.T.Tree.plan t) c.args.workers c.search_in.result c.requires.0 (laws.planned t) e.legal e.planned e.seats e.order
