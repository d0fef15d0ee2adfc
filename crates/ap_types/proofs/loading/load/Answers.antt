use Rattle.std.proofs.Common.{◌≡◌, ◌≤◌, length, subst, sym, ap}
use Rattle.ap_defs.specs.Types.{TypeShape, shape_of, hole}
use Rattle.ap_types.specs.Equations.{bound_of}
use Rattle.ap_types.specs.Triangular.{shapes_of_nodes}
use Rattle.ap_types.specs.Joining.{Loads}
use Rattle.ap_types.proofs.PlainLemmas.{loads_hole}
use Rattle.ap_types.proofs.loading.load.Goals as goal

pub returns-in-Hole : goal.returns-in-Hole
returns-in-Hole c =
    let ns = c.args.nodes.now.items in
    let is : shape_of c.args.t.now ≡ hole c.in-Hole.x = ap shape_of c.in-Hole.is in
    let b : bound_of (hole c.in-Hole.x) ≤ length ns = subst (λ (t : TypeShape). bound_of t ≤ length ns) is c.requires.bound in
    subst (λ (t : TypeShape). Loads (shapes_of_nodes ns) t (shapes_of_nodes ns) c.in-Hole.x) (sym is) (loads_hole ns c.in-Hole.x c.requires.formed b)
