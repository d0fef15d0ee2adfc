use Rattle.std.proofs.Common.{◌≡◌, ◌++◌, map, arith}
use Rattle.ap_types.specs.Equations.{equation_of, hole_count}
use Rattle.ap_types.specs.Triangular.{shapes_of_nodes}
use Rattle.ap_types.specs.Growing.{table_equations}
use Rattle.ap_types.proofs.TableLemmas.{length_table}
use Rattle.ap_types.proofs.EquationLemmas.{table_count}
use Rattle.ap_types.proofs.equations.begun.Goals as goal

pub load_system-requires-clause-holes : goal.load_system-requires-clause-holes
load_system-requires-clause-holes c =
    let ns = c.args.nodes.items in
    let n = table_count (shapes_of_nodes ns) (map equation_of c.args.equations.now) c.args.names.now c.requires in
    let long = length_table ns in
    omega (arith, n, long, c.greater-holes.ensures, c.greater-in_both.ensures, c.in_ok-in_equations.ensures, c.in_ok-in_names.ensures, c.len-places.ensures)

pub returns : goal.returns
returns c =
    let ns = c.args.nodes.items in
    let n = table_count (shapes_of_nodes ns) (map equation_of c.args.equations.now) c.args.names.now c.requires in
    let long = length_table ns in
    (omega (arith, n, long, c.greater-holes.ensures, c.greater-in_both.ensures, c.in_ok-in_equations.ensures, c.in_ok-in_names.ensures, c.len-places.ensures), c.in_ok-loaded.ensures)
