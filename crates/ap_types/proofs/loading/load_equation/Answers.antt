use Rattle.std.proofs.Common.{length, refl, sym, subst}
use Rattle.ap_defs.specs.Types.{shape_of}
use Rattle.ap_types.specs.Triangular.{shapes_of_nodes}
use Rattle.ap_types.specs.Joining.{ArePairsWithin}
use Rattle.ap_types.proofs.TableLemmas.{length_table}
use Rattle.ap_types.proofs.GrowLemmas.{loads_taken}
use Rattle.ap_types.proofs.loading.load_equation.Goals as goal

pub returns-then-put_equation : goal.returns-then-put_equation
returns-then-put_equation c =
    let ns = c.args.loaded.nodes.items in
    let ps = c.args.loaded.pairs.items in
    loads_taken (shapes_of_nodes ns) (shapes_of_nodes c.put_equation.new.nodes.items) (shape_of c.args.left.now) (shape_of c.args.right.now) ps c.requires.formed
    (subst (λ n. ArePairsWithin n ps) (sym (length_table ns)) c.requires.within) (c.if-put_equation.ensures.put refl)
