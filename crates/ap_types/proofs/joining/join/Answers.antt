use Rattle.ap_types.specs.Triangular.{shapes_of_nodes}
use Rattle.ap_types.specs.Joining.{pairs_of}
use Rattle.ap_types.proofs.JoinLemmas.{joins_same, joins_found, joins_turned, never_found, never_turned, match_found}
use Rattle.ap_types.proofs.joining.join.Goals as goal

pub returns-then-left-right : goal.returns-then-left-right
returns-then-left-right c =
    joins_same (shapes_of_nodes c.args.nodes.now) (shapes_of_nodes c.root_of-left.new.nodes) (shapes_of_nodes c.root_of-right.new.nodes) c.args.x c.args.y c.root_of-left.result c.root_of-right.result
    c.root_of-left.ensures c.root_of-right.ensures c.if-left-right.true

pub returns-then-left-right-2 : goal.returns-then-left-right-2
returns-then-left-right-2 c =
    let ts = shapes_of_nodes c.args.nodes.now in
    let us = shapes_of_nodes c.root_of-left.new.nodes in
    let vs = shapes_of_nodes c.root_of-right.new.nodes in
    let l = c.root_of-left.result in
    let r = c.root_of-right.result in
    match_found c.join_roots.result pairs_of ts vs (shapes_of_nodes c.join_roots.new.nodes) c.args.x c.args.y l r
    (never_found ts us vs c.args.x c.args.y l r c.root_of-left.ensures c.root_of-right.ensures)
    (λ ws ps. joins_found ts us vs ws c.args.x c.args.y l r ps c.root_of-left.ensures c.root_of-right.ensures)
    c.join_roots.ensures

pub returns-else-left-right-2 : goal.returns-else-left-right-2
returns-else-left-right-2 c =
    let ts = shapes_of_nodes c.args.nodes.now in
    let us = shapes_of_nodes c.root_of-left.new.nodes in
    let vs = shapes_of_nodes c.root_of-right.new.nodes in
    let l = c.root_of-left.result in
    let r = c.root_of-right.result in
    match_found c.join_roots-else-left-right-2.result pairs_of ts vs (shapes_of_nodes c.join_roots-else-left-right-2.new.nodes) c.args.x c.args.y r l
    (λ n. never_found ts us vs c.args.x c.args.y l r c.root_of-left.ensures c.root_of-right.ensures (never_turned vs r l n))
    (λ ws ps j. joins_found ts us vs ws c.args.x c.args.y l r ps c.root_of-left.ensures c.root_of-right.ensures (joins_turned vs ws r l ps j))
    c.join_roots-else-left-right-2.ensures
