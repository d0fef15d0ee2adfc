use Rattle.std.proofs.Common.{map, length, ap}
use Rattle.ap_types.specs.Equations.{equation_of}
use Rattle.ap_types.specs.Triangular.{shapes_of_nodes}
use Rattle.ap_kinds.proofs.SolvedLemmas.{solved_table, unsolvable_table}
use Rattle.ap_kinds.proofs.kinds.table_of_holes.Goals as goal

pub returns-clause-ok : goal.returns-clause-ok
returns-clause-ok c =
    solved_table c.solved_table.result (shapes_of_nodes c.args.system.nodes.items) (map equation_of c.args.system.equations.items) c.as_slice.result.now c.args.system.names.items
    (length c.items-name_types.result.now) (length c.args.sig.now.name_types) c.args.system.next c.as_slice.ensures.value (ap length c.items-name_types.ensures)
    c.solved_table.ensures.most_general c.solved_table.ensures.constrained

pub returns-clause-clash : goal.returns-clause-clash
returns-clause-clash c =
    unsolvable_table c.solved_table.result (shapes_of_nodes c.args.system.nodes.items) (map equation_of c.args.system.equations.items) c.as_slice.result.now c.args.system.names.items
    (length c.items-name_types.result.now) (length c.args.sig.now.name_types) c.as_slice.ensures.value (ap length c.items-name_types.ensures)
    c.solved_table.ensures.clash
