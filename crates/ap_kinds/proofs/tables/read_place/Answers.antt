use Rattle.std.proofs.Common.{sym, subst}
use Rattle.ap_defs.specs.Types.{hole, unit, names, base, pair, list, abs}
use Rattle.ap_types.specs.declared.nodes.Node.TheVariants as nodes
use Rattle.ap_types.specs.Triangular.{shapes_of_nodes, value_of}
use Rattle.ap_kinds.specs.ReadTypes.{IsReadBy, marks_of}
use Rattle.ap_kinds.proofs.PlaceLemmas.{place_value, open_here, link_part, list_part, pair_left, pair_right, abs_left, abs_body, read_as, given}
use Rattle.ap_kinds.proofs.tables.read_place.Goals as goal

pub returns-in-Unit : goal.returns-in-Unit
returns-in-Unit c =
    let ns = c.args.nodes.now in
    let x = c.args.x in
    let by = c.args.by in
    let f = value_of (shapes_of_nodes ns) in
    read_as by (f x) unit c.read_unit.result (place_value ns x c.requires.settled c.requires.within nodes.Unit c.in-Unit.is) (c.read_unit.ensures by.name_types by.data_types (marks_of by))

pub returns-in-Names : goal.returns-in-Names
returns-in-Names c =
    let ns = c.args.nodes.now in
    let x = c.args.x in
    let by = c.args.by in
    let f = value_of (shapes_of_nodes ns) in
    read_as by (f x) (names c.in-Names.sort) c.read_names.result (place_value ns x c.requires.settled c.requires.within (nodes.Names c.in-Names.sort) c.in-Names.is) c.read_names.ensures

pub returns-in-Base : goal.returns-in-Base
returns-in-Base c =
    let ns = c.args.nodes.now in
    let x = c.args.x in
    let by = c.args.by in
    let f = value_of (shapes_of_nodes ns) in
    read_as by (f x) (base c.in-Base.base) c.read_base.result (place_value ns x c.requires.settled c.requires.within (nodes.Base c.in-Base.base) c.in-Base.is) c.read_base.ensures

pub returns-then-y-x : goal.returns-then-y-x
returns-then-y-x c =
    let ns = c.args.nodes.now in
    let x = c.args.x in
    let by = c.args.by in
    let f = value_of (shapes_of_nodes ns) in
    read_as by (f x) (hole x) c.read_open.result (open_here ns x c.requires.settled c.requires.within c.in-Place.y c.in-Place.is c.if-y-x.true) (c.read_open.ensures by.name_types by.data_types (marks_of by) x)

pub read_of_place-part-requires : goal.read_of_place-part-requires
read_of_place-part-requires c =
    (c.requires.parts c.in-Place.y (link_part c.args.nodes.now c.args.x c.requires.settled c.requires.within c.in-Place.y c.in-Place.is c.if-y-x.false)).0

pub returns-else-y-x : goal.returns-else-y-x
returns-else-y-x c =
    let ns = c.args.nodes.now in
    let x = c.args.x in
    let by = c.args.by in
    let f = value_of (shapes_of_nodes ns) in
    let y = c.in-Place.y in
    let part = subst (IsReadBy by (f y)) (sym c.read_of_place-part.ensures) (c.requires.parts y (link_part ns x c.requires.settled c.requires.within y c.in-Place.is c.if-y-x.false)).1 in
    given c.copy_read.result
    (λ r k. read_as by (f x) (f y) r (place_value ns x c.requires.settled c.requires.within (nodes.Place y) c.in-Place.is) (k by.name_types by.data_types (marks_of by) (f y) part))
    c.copy_read.ensures

pub read_of_place-element-requires : goal.read_of_place-element-requires
read_of_place-element-requires c =
    (c.requires.parts c.in-List.y (list_part c.args.nodes.now c.args.x c.requires.settled c.requires.within c.in-List.y c.in-List.is)).0

pub returns-in-List : goal.returns-in-List
returns-in-List c =
    let ns = c.args.nodes.now in
    let x = c.args.x in
    let by = c.args.by in
    let f = value_of (shapes_of_nodes ns) in
    let y = c.in-List.y in
    let part = subst (IsReadBy by (f y)) (sym c.read_of_place-element.ensures) (c.requires.parts y (list_part ns x c.requires.settled c.requires.within y c.in-List.is)).1 in
    given c.read_list.result
    (λ r k. read_as by (f x) (list (f y)) r (place_value ns x c.requires.settled c.requires.within (nodes.List y) c.in-List.is) (k by.name_types by.data_types (marks_of by) (f y) part))
    c.read_list.ensures

pub read_of_place-first-requires : goal.read_of_place-first-requires
read_of_place-first-requires c =
    (c.requires.parts c.in-Pair.y (pair_left c.args.nodes.now c.args.x c.requires.settled c.requires.within c.in-Pair.y c.in-Pair.z c.in-Pair.is)).0

pub read_of_place-second-requires : goal.read_of_place-second-requires
read_of_place-second-requires c =
    (c.requires.parts c.in-Pair.z (pair_right c.args.nodes.now c.args.x c.requires.settled c.requires.within c.in-Pair.y c.in-Pair.z c.in-Pair.is)).0

pub returns-in-Pair : goal.returns-in-Pair
returns-in-Pair c =
    let ns = c.args.nodes.now in
    let x = c.args.x in
    let by = c.args.by in
    let f = value_of (shapes_of_nodes ns) in
    let y = c.in-Pair.y in
    let z = c.in-Pair.z in
    let first = subst (IsReadBy by (f y)) (sym c.read_of_place-first.ensures) (c.requires.parts y (pair_left ns x c.requires.settled c.requires.within y z c.in-Pair.is)).1 in
    let second = subst (IsReadBy by (f z)) (sym c.read_of_place-second.ensures) (c.requires.parts z (pair_right ns x c.requires.settled c.requires.within y z c.in-Pair.is)).1 in
    given c.read_pair.result
    (λ r k. read_as by (f x) (pair (f y) (f z)) r (place_value ns x c.requires.settled c.requires.within (nodes.Pair y z) c.in-Pair.is) (k by.name_types by.data_types (marks_of by) (f y) (f z) first second))
    c.read_pair.ensures

pub read_of_place-left-requires : goal.read_of_place-left-requires
read_of_place-left-requires c =
    (c.requires.parts c.in-Abs.y (abs_left c.args.nodes.now c.args.x c.requires.settled c.requires.within c.in-Abs.y c.in-Abs.z c.in-Abs.is)).0

pub read_of_place-body-requires : goal.read_of_place-body-requires
read_of_place-body-requires c =
    (c.requires.parts c.in-Abs.z (abs_body c.args.nodes.now c.args.x c.requires.settled c.requires.within c.in-Abs.y c.in-Abs.z c.in-Abs.is)).0

pub returns-in-Abs : goal.returns-in-Abs
returns-in-Abs c =
    let ns = c.args.nodes.now in
    let x = c.args.x in
    let by = c.args.by in
    let f = value_of (shapes_of_nodes ns) in
    let y = c.in-Abs.y in
    let z = c.in-Abs.z in
    let left = subst (IsReadBy by (f y)) (sym c.read_of_place-left.ensures) (c.requires.parts y (abs_left ns x c.requires.settled c.requires.within y z c.in-Abs.is)).1 in
    let body = subst (IsReadBy by (f z)) (sym c.read_of_place-body.ensures) (c.requires.parts z (abs_body ns x c.requires.settled c.requires.within y z c.in-Abs.is)).1 in
    given c.read_abs.result
    (λ r k. read_as by (f x) (abs (f y) (f z)) r (place_value ns x c.requires.settled c.requires.within (nodes.Abs y z) c.in-Abs.is) (k by.name_types by.data_types (marks_of by) (f y) (f z) left body))
    c.read_abs.ensures
