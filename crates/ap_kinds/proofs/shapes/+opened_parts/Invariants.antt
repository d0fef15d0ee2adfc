-- What is left, within the layers, is all.
use Rattle.std.proofs.Common.{◌≡◌, ◌≤◌}
use Rattle.ap_defs.specs.Types.{type_of}
use Rattle.ap_defs.proofs.SpineLemmas.{type_size}
use Rattle.ap_kinds.specs.Systems.{shape_of_type}
use Rattle.ap_kinds.specs.Layers.{shape_within}
use Rattle.ap_kinds.proofs.shapes.+opened_parts.Given as goal

abbrev pub decreases-opened_parts : goal.decreases-opened_parts
decreases-opened_parts l = type_size (type_of l.t.now)

abbrev pub invariant-loop-rest : goal.invariant-loop-rest
invariant-loop-rest l = record {
  all : shape_within l.layers.items (shape_of_type (type_of l.rest)) ≡ shape_of_type (type_of l.fn.t);
  smaller : type_size (type_of l.rest) ≤ type_size (type_of l.fn.t);
}

abbrev pub decreases-loop-rest : goal.decreases-loop-rest
decreases-loop-rest l = type_size (type_of l.rest)
