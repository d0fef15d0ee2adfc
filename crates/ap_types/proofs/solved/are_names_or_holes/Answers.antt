use Rattle.std.proofs.Common.{List, get_or, refl, sym, subst}
use Rattle.ap_types.specs.declared.nodes.Node.{Node}
use Rattle.ap_types.specs.Assignments.{IsNameOrHole}
use Rattle.ap_types.specs.Triangular.{shapes_of_nodes, value_of}
use Rattle.ap_types.proofs.SettledLemmas.{names_next}
use Rattle.ap_types.proofs.solved.are_names_or_holes.Goals as goal

pub returns-then-not-is_name_or_hole : goal.returns-then-not-is_name_or_hole
returns-then-not-is_name_or_hole c =
    let ns = c.args.solved.now.nodes.items in
    let next = names_next c.args.name_types c.args.solved.now.holes (shapes_of_nodes ns) c.args.names.now c.loop-x.x-index c.loop-x-test.true c.loop-x.invariant.1 in
    let x = get_or c.args.names.now c.loop-x.x-index 0 in (
      (λ e. cc),
      (λ h. c.if-not-is_name_or_hole.ensures.1 (subst (λ (ms : List Node). IsNameOrHole c.args.name_types (value_of (shapes_of_nodes ms) x)) (sym c.as_slice.ensures.value) (next.0.0 (c.loop-x.invariant.0.1 h)).0)),
    )

pub loop-x-preserved : goal.loop-x-preserved
loop-x-preserved c =
    let ns = c.args.solved.now.nodes.items in
    let next = names_next c.args.name_types c.args.solved.now.holes (shapes_of_nodes ns) c.args.names.now c.loop-x.x-index c.loop-x-test.true c.loop-x.invariant.1 in
    let x = get_or c.args.names.now c.loop-x.x-index 0 in
    let here : IsNameOrHole c.args.name_types (value_of (shapes_of_nodes ns) x) =
    subst (λ (ms : List Node). IsNameOrHole c.args.name_types (value_of (shapes_of_nodes ms) x)) c.as_slice.ensures.value (c.if-not-is_name_or_hole.ensures.0 refl) in (
      ((λ h. c.loop-x.invariant.0.0 (next.0.1 (here, h))), (λ h. (next.0.0 (c.loop-x.invariant.0.1 h)).1)),
      next.1,
    )
