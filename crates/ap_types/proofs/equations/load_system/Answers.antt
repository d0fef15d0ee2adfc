use Rattle.std.proofs.Common.{◌≡◌, ◌≤◌, ◌∙◌, ◌++◌, [], List, ℕ, length, map, subst, arith}
use Rattle.ap_types.specs.Equations.{equation_of}
use Rattle.ap_types.specs.Assignments.{name_equations}
use Rattle.ap_types.specs.Triangular.{shapes_of_nodes}
use Rattle.ap_types.specs.Growing.{table_equations}
use Rattle.ap_types.specs.Joining.{LoadsAll}
use Rattle.ap_types.proofs.TableLemmas.{length_table}
use Rattle.ap_types.proofs.NameLemmas.{bound_names}
use Rattle.ap_types.proofs.EquationLemmas.{table_count}
use Rattle.ap_types.proofs.SettledLemmas.{loads_system, loaded_system, places_formed}
use Rattle.ap_types.proofs.equations.load_system.Goals as goal

pub with_places-requires : goal.with_places-requires
with_places-requires c =
    let ns = c.args.begun.items in
    let n = table_count (shapes_of_nodes ns) (map equation_of c.args.equations.now) c.args.names.now c.requires.formed in
    let long = length_table ns in
    omega (arith, n, long, c.requires.holes)

pub load_all-requires-clause-formed : goal.load_all-requires-clause-formed
load_all-requires-clause-formed c =
    let ns = c.args.begun.items in
    let ms = c.in_ok-nodes.nodes.items in
    let n = table_count (shapes_of_nodes ns) (map equation_of c.args.equations.now) c.args.names.now c.requires.formed in
    let long = length_table ms in
    places_formed (shapes_of_nodes ms) (shapes_of_nodes ns) c.in_ok-nodes.ensures.same (omega (arith, n, long, c.requires.holes, c.in_ok-nodes.ensures.len)) c.requires.formed

pub load_all-requires-clause-bound : goal.load_all-requires-clause-bound
load_all-requires-clause-bound c =
    let n = table_count (shapes_of_nodes c.args.begun.items) (map equation_of c.args.equations.now) c.args.names.now c.requires.formed in
    omega (arith, n, c.requires.holes, c.in_ok-nodes.ensures.len)

pub load_name_equations-requires-clause-bound : goal.load_name_equations-requires-clause-bound
load_name_equations-requires-clause-bound c =
    let longer = c.in_ok-loaded.ensures.longer in
    let n = table_count (shapes_of_nodes c.args.begun.items) (map equation_of c.args.equations.now) c.args.names.now c.requires.formed in
    let one = length_table c.in_ok-nodes.nodes.items in
    let two = length_table c.in_ok-loaded.loaded.nodes.items in
    omega (arith, c.requires.holes, c.in_ok-nodes.ensures.len)

pub returns : goal.returns
returns c =
    let bs = shapes_of_nodes c.args.begun.items in
    let es = map equation_of c.args.equations.now in
    let fs = name_equations c.args.name_types c.args.names.now in
    let os = shapes_of_nodes c.in_ok-nodes.nodes.items in
    let ts = shapes_of_nodes c.in_ok-loaded.loaded.nodes.items in
    let ps = c.in_ok-loaded.loaded.pairs.items in
    let first : LoadsAll os [] es ts ps = subst (λ (qs : List (ℕ × ℕ)). LoadsAll os qs es ts ps) c.in_ok-pairs.ensures.items c.in_ok-loaded.ensures in
    loaded_system c.load_name_equations.result (table_equations 0 bs ++ es) fs c.args.holes ts ps
    (λ us qs k. loads_system bs es fs c.args.holes os ts us ps qs c.in_ok-nodes.ensures.same (length_table c.in_ok-nodes.nodes.items ∙ c.in_ok-nodes.ensures.len)
    (let bound = bound_names c.args.name_types c.args.names.now in let n = table_count bs es c.args.names.now c.requires.formed in omega (arith, c.requires.holes)) first k)
    c.load_name_equations.ensures
