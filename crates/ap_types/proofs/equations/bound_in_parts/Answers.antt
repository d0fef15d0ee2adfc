use Rattle.ap_defs.specs.Types.{shape_of}
use Rattle.ap_types.specs.Equations.{bound_of}
use Rattle.ap_types.specs.Loading.{parts_of}
use Rattle.ap_types.specs.Solving.{size}
use Rattle.ap_types.proofs.PartLemmas.{bounds_next, sizes_of_parts}
use Rattle.ap_types.proofs.PartTests.{fewer_left}
use Rattle.ap_types.proofs.equations.bound_in_parts.Goals as goal

pub parts-preserved : goal.parts-preserved
parts-preserved c =
    bounds_next c.parts.waiting.items c.push_parts.new.waiting.items c.pop.new.self.items (shape_of c.parts.part.now) c.in-Some.next c.parts.bound c.in_ok-own_bound.field-0 c.greater-bound.result
    (bound_of (shape_of c.args.t.now)) c.in-Some.ensures.items c.in_ok-push_parts.ensures c.in_ok-own_bound.ensures c.greater-bound.ensures c.parts.invariant

pub parts-smaller : goal.parts-smaller
parts-smaller c =
    fewer_left shape_of size (parts_of (shape_of c.parts.part.now)) c.parts.waiting.items c.push_parts.new.waiting.items c.pop.new.self.items (shape_of c.parts.part.now) c.in-Some.next
    (sizes_of_parts (shape_of c.parts.part.now)) c.in-Some.ensures.items c.in_ok-push_parts.ensures
