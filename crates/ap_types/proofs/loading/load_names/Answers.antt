use Rattle.std.proofs.Common.{◌≤◌, ◌+◌, ◌∷◌, map, drop, get_or, length, subst, sym, ap, arith}
use Rattle.std.proofs.lemmas.List.{drop_all}
use Rattle.ap_defs.specs.Types.{hole, names}
use Rattle.ap_types.specs.Equations.{equations_bound}
use Rattle.ap_types.specs.Assignments.{name_equation}
use Rattle.ap_types.specs.Triangular.{shapes_of_nodes}
use Rattle.ap_types.specs.Joining.{ArePairsWithin}
use Rattle.ap_types.proofs.TableLemmas.{length_table}
use Rattle.ap_types.proofs.LoadLemmas.{LoadsSome, loads_first, loads_more, loads_end, name_next}
use Rattle.ap_types.proofs.NameLemmas.{bound_one}
use Rattle.ap_types.proofs.loading.load_names.Goals as goal

pub loop-x-init : goal.loop-x-init
loop-x-init c =
    let ns = c.args.loaded.nodes.items in
    let ps = c.args.loaded.pairs.items in
    let long = length_table ns in
    let bound = bound_one c.args.names.now in
    loads_first (shapes_of_nodes ns) ps (map name_equation c.args.names.now) c.requires.formed (subst (λ n. ArePairsWithin n ps) (sym long) c.requires.within) (omega (arith, c.requires.bound))

pub load_name-requires-clause-formed : goal.load_name-requires-clause-formed
load_name-requires-clause-formed c = c.loop-x.invariant.formed

pub load_name-requires-clause-bound : goal.load_name-requires-clause-bound
load_name-requires-clause-bound c =
    let ns = c.loop-x.all.nodes.items in
    let long = length_table ns in
    let next = name_next c.args.names.now c.loop-x.x-index c.loop-x-test.true in
    let bound : equations_bound (name_equation (get_or c.args.names.now c.loop-x.x-index 0) ∷ map name_equation (drop (c.loop-x.x-index + 1) c.args.names.now)) ≤ length (shapes_of_nodes ns) =
    subst (λ es. equations_bound es ≤ length (shapes_of_nodes ns)) next c.loop-x.invariant.bound in
    omega (arith, bound)

pub load_name-requires-clause-within : goal.load_name-requires-clause-within
load_name-requires-clause-within c = subst (λ n. ArePairsWithin n c.loop-x.all.pairs.items) (length_table c.loop-x.all.nodes.items) c.loop-x.invariant.within

pub loop-x-preserved : goal.loop-x-preserved
loop-x-preserved c =
    let ts = shapes_of_nodes c.args.loaded.nodes.items in
    let us = shapes_of_nodes c.loop-x.all.nodes.items in
    let vs = shapes_of_nodes c.in_ok-all.all.nodes.items in
    let ps = c.args.loaded.pairs.items in
    let all = map name_equation c.args.names.now in
    let next = subst (LoadsSome ts ps all us c.loop-x.all.pairs.items) (name_next c.args.names.now c.loop-x.x-index c.loop-x-test.true) c.loop-x.invariant in
    loads_more ts ps all us vs c.loop-x.all.pairs.items c.in_ok-all.all.pairs.items (hole (get_or c.args.names.now c.loop-x.x-index 0)) (names 0) (map name_equation (drop (c.loop-x.x-index + 1) c.args.names.now)) next c.in_ok-all.ensures

pub returns : goal.returns
returns c =
    let ts = shapes_of_nodes c.args.loaded.nodes.items in
    let us = shapes_of_nodes c.loop-x.all.nodes.items in
    let ps = c.args.loaded.pairs.items in
    let all = map name_equation c.args.names.now in
    let none = ap (map name_equation) (drop_all c.loop-x.x-index c.args.names.now (omega (arith, c.loop-x-test.false))) in
    loads_end ts ps all us c.loop-x.all.pairs.items (subst (LoadsSome ts ps all us c.loop-x.all.pairs.items) none c.loop-x.invariant)
