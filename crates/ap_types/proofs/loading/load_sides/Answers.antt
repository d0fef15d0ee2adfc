use Rattle.std.proofs.Common.{◌∷◌, [], length, List, ℕ, subst, sym, arith}
use Rattle.ap_defs.specs.Types.{shape_of}
use Rattle.ap_types.specs.Equations.{◌≐◌}
use Rattle.ap_types.specs.Triangular.{shapes_of_nodes}
use Rattle.ap_types.specs.Joining.{LoadsAll, ArePairsWithin}
use Rattle.ap_types.proofs.TableLemmas.{length_table}
use Rattle.ap_types.proofs.LoadLemmas.{loads_equation}
use Rattle.ap_types.proofs.loading.load_sides.Goals as goal

pub returns : goal.returns
returns c =
    let ts = shapes_of_nodes c.args.loaded.nodes.items in
    let us = shapes_of_nodes c.load.new.nodes.items in
    let vs = shapes_of_nodes c.load-2.new.nodes.items in
    let l = shape_of c.args.left.now in
    let r = shape_of c.args.right.now in
    let ps = c.args.loaded.pairs.items in
    let long = length_table c.args.loaded.nodes.items in
    let w : ArePairsWithin (length ts) ps = subst (λ n. ArePairsWithin n ps) (sym long) c.requires.within in
    subst (λ (qs : List (ℕ × ℕ)). LoadsAll ts ps ((l ≐ r) ∷ []) vs qs) (sym c.in_ok-push.ensures.items)
    (loads_equation ts us vs ps l r c.in_ok-left.left c.in_ok-right.right w (omega (arith, c.requires.left, long)) (omega (arith, c.requires.right, long)) c.in_ok-left.ensures c.in_ok-right.ensures)
