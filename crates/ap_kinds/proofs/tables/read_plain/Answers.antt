use Rattle.ap_defs.specs.Types.{hole, unit, names, base}
use Rattle.ap_types.specs.declared.nodes.Node.TheVariants as nodes
use Rattle.ap_types.specs.Triangular.{shapes_of_nodes, value_of}
use Rattle.ap_kinds.specs.ReadTypes.{marks_of}
use Rattle.ap_kinds.proofs.PlaceLemmas.{entry_open, entry_as, read_as}
use Rattle.ap_kinds.proofs.tables.read_plain.Goals as goal

pub returns-in-Place : goal.returns-in-Place
returns-in-Place c =
    let f = value_of (shapes_of_nodes c.args.nodes.now) in
    let x = c.args.x in
    read_as c.args.by (f x) (hole _) c.read_open.result (entry_open f x _ c.entry_at.result c.entry_at.ensures c.in-Place.is) (c.read_open.ensures c.args.by.name_types c.args.by.data_types (marks_of c.args.by) _)

pub returns-in-Unit : goal.returns-in-Unit
returns-in-Unit c =
    let f = value_of (shapes_of_nodes c.args.nodes.now) in
    let x = c.args.x in
    read_as c.args.by (f x) unit c.read_unit.result (entry_as f x c.entry_at.result nodes.Unit c.entry_at.ensures c.in-Unit.is) (c.read_unit.ensures c.args.by.name_types c.args.by.data_types (marks_of c.args.by))

pub returns-in-Names : goal.returns-in-Names
returns-in-Names c =
    let f = value_of (shapes_of_nodes c.args.nodes.now) in
    let x = c.args.x in
    read_as c.args.by (f x) (names c.in-Names.sort) c.read_names.result (entry_as f x c.entry_at.result (nodes.Names c.in-Names.sort) c.entry_at.ensures c.in-Names.is) c.read_names.ensures

pub returns-in-Base : goal.returns-in-Base
returns-in-Base c =
    let f = value_of (shapes_of_nodes c.args.nodes.now) in
    let x = c.args.x in
    read_as c.args.by (f x) (base c.in-Base.base) c.read_base.result (entry_as f x c.entry_at.result (nodes.Base c.in-Base.base) c.entry_at.ensures c.in-Base.is) c.read_base.ensures
