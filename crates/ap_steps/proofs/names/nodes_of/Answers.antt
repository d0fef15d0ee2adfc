use Rattle.std.proofs.Common.{ap, ◌∙◌, arith}
use Rattle.ap_steps.specs.Names.{count_left}
use Rattle.ap_steps.proofs.NameLemmas.{last_count, node_next}
use Rattle.ap_steps.proofs.names.nodes_of.Goals as goal

pub nodes-smaller : goal.nodes-smaller
nodes-smaller c =
    let whole = ap count_left c.in-Some.ensures.items ∙ last_count c.pop.new.self.items c.in-Some.next in
    omega (arith, whole, c.in_ok-wait_below.ensures.count)

pub nodes-preserved : goal.nodes-preserved
nodes-preserved c =
    node_next c.nodes.nodes.items c.push-in-Some.new.self.items c.nodes.waiting.items c.pop.new.self.items c.wait_below.new.waiting.items c.in-Some.next _
    c.in-Some.ensures.items c.in_ok-push-2.ensures.items c.in_ok-wait_below.ensures.nodes c.nodes.invariant
