use Rattle.std.proofs.Common.{arith}
use Rattle.std.proofs.lemmas.Result.{err_from_is_err_and}
use Rattle.ap_types.specs.Triangular.{shapes_of_nodes}
use Rattle.ap_types.proofs.TableLemmas.{length_table}
use Rattle.ap_types.proofs.OrderLemmas.{all_in_order}
use Rattle.ap_types.proofs.WalkLemmas.{walk_settles}
use Rattle.ap_types.proofs.walking.in_order.Goals as goal

pub returns-in_err-explore-clause-clash : goal.returns-in_err-explore-clause-clash
returns-in_err-explore-clause-clash c =
    let p = err_from_is_err_and c.from_residual-in_err-explore.result c.from_residual-in_err-explore.ensures.1 in
    rw (p.1, p.2) (λ i. c.in_err-explore.ensures.clash i)

pub returns-clause-ok : goal.returns-clause-ok
returns-clause-ok c =
    let long = length_table c.args.nodes.now in
    walk_settles (shapes_of_nodes c.args.nodes.now) c.loop-x.walk.marks.items c.loop-x.walk.order.items c.requires c.loop-x.invariant.0
    (λ x l. c.loop-x.invariant.2 x (omega (arith, c.loop-x-test.false)))

pub returns-clause-order : goal.returns-clause-order
returns-clause-order c =
    let long = length_table c.args.nodes.now in
    all_in_order (shapes_of_nodes c.args.nodes.now) c.loop-x.walk.marks.items c.loop-x.walk.order.items c.loop-x.invariant.0
    (λ x l. c.loop-x.invariant.2 x (omega (arith, c.loop-x-test.false)))
