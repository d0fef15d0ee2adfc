use Rattle.std.proofs.Common.{refl, arith}
use Rattle.ap_steps.specs.declared.bodies.Body.{Body}
use Rattle.ap_steps.specs.Writers.{writing_of}
use Rattle.ap_steps.proofs.BodyLemmas.{turn_goes_on, turn_marked, turn_nodes}
use Rattle.ap_steps.proofs.bodies.pieces_of.Goals as goal

pub visit-requires : goal.visit-requires
visit-requires c =
    let before : Body = record { standing = c.truncate.new.self; pending = c.pop.new.self; pieces = c.nodes.body.pieces } in
    turn_marked (writing_of c.args.writer.now) _ c.nodes.body before before c.in-Some.next c.nodes.invariant c.in-Some.ensures.items c.truncate.ensures.items refl

pub nodes-preserved : goal.nodes-preserved
nodes-preserved c =
    let before : Body = record { standing = c.truncate.new.self; pending = c.pop.new.self; pieces = c.nodes.body.pieces } in
    turn_goes_on (writing_of c.args.writer.now) _ c.nodes.body before c.visit.new.body c.in-Some.next c.nodes.invariant c.in-Some.ensures.items c.truncate.ensures.items refl
    c.in_ok-visit.ensures

pub nodes-smaller : goal.nodes-smaller
nodes-smaller c =
    let before : Body = record { standing = c.truncate.new.self; pending = c.pop.new.self; pieces = c.nodes.body.pieces } in
    let all = turn_nodes (writing_of c.args.writer.now) _ c.nodes.body before before c.in-Some.next c.nodes.invariant c.in-Some.ensures.items c.truncate.ensures.items refl in
    omega (arith, all, c.in_ok-visit.ensures.nodes)
