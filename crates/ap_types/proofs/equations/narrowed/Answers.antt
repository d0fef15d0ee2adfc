use Rattle.std.proofs.Common.{◌++◌, map, sym}
use Rattle.std.proofs.lemmas.Result.{err_from_is_err_and}
use Rattle.ap_types.specs.Equations.{equation_of}
use Rattle.ap_types.specs.Triangular.{shapes_of_nodes}
use Rattle.ap_types.specs.Growing.{table_equations}
use Rattle.ap_types.proofs.SettledLemmas.{narrows_settled, unsolvable_never}
use Rattle.ap_types.proofs.equations.narrowed.Goals as goal

pub returns-in_err-nodes-clause-clash : goal.returns-in_err-nodes-clause-clash
returns-in_err-nodes-clause-clash c =
    let p = err_from_is_err_and c.from_residual-in_err-nodes.result c.from_residual-in_err-nodes.ensures.1 in
    let es = table_equations 0 (shapes_of_nodes c.args.nodes.items) ++ map equation_of c.args.equations.items in
    let b = c.in_ok-first.first in
    rw (p.1, p.2) (λ i. unsolvable_never es c.args.names.now c.args.name_types b.holes (shapes_of_nodes b.loaded.nodes.items) b.loaded.pairs.items
    (sym c.in_ok-first.ensures.0) c.in_ok-first.ensures.1 (c.in_err-nodes.ensures.clash i))

pub returns-clause-narrows : goal.returns-clause-narrows
returns-clause-narrows c =
    let es = table_equations 0 (shapes_of_nodes c.args.nodes.items) ++ map equation_of c.args.equations.items in
    let b = c.in_ok-first.first in
    narrows_settled es c.args.names.now c.args.name_types b.holes (shapes_of_nodes b.loaded.nodes.items) b.loaded.pairs.items
    (sym c.in_ok-first.ensures.0) c.in_ok-first.ensures.1 (shapes_of_nodes c.in_ok-nodes.nodes.items) c.in_ok-nodes.ensures.ok
