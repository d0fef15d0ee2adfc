use Rattle.std.proofs.Common.{◌∙◌, List, sym, ap}
use Rattle.ap_defs.specs.Types.{hole}
use Rattle.ap_types.specs.declared.nodes.Node.{Node}
use Rattle.ap_types.specs.Solving.{shape_at}
use Rattle.ap_types.specs.Triangular.{shapes_of_nodes, value_of, assignment_of}
use Rattle.ap_kinds.specs.ReadTypes.{marks_of}
use Rattle.ap_kinds.proofs.PlaceLemmas.{hole_value, hole_past, read_as, given_some}
use Rattle.ap_kinds.proofs.tables.read_plain_hole.Goals as goal

pub returns-then-x-table : goal.returns-then-x-table
returns-then-x-table c =
    let x = c.args.x in
    read_as c.args.by (shape_at (assignment_of c.args.table.now) x) (hole x) c.read_open.result (hole_past c.args.table.now x c.if-x-table.true)
    (c.read_open.ensures c.args.by.name_types c.args.by.data_types (marks_of c.args.by) x)

pub returns : goal.returns
returns c =
    let x = c.args.x in
    let same = λ (ns : List Node). value_of (shapes_of_nodes ns) x in
    given_some c.read_plain.result
    (λ r h. read_as c.args.by (shape_at (assignment_of c.args.table.now) x) (same c.as_slice.result.now) r (hole_value c.args.table.now x c.if-x-table.false ∙ ap same (sym c.as_slice.ensures.value)) h)
    c.read_plain.ensures
