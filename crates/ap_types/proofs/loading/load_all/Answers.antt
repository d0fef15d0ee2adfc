use Rattle.std.proofs.Common.{◌+◌, map, drop, length, subst, sym, ap, arith}
use Rattle.std.proofs.lemmas.List.{drop_all}
use Rattle.ap_defs.specs.Types.{shape_of}
use Rattle.ap_types.specs.Equations.{equation_of}
use Rattle.ap_types.specs.Triangular.{shapes_of_nodes}
use Rattle.ap_types.specs.Joining.{ArePairsWithin}
use Rattle.ap_types.proofs.TableLemmas.{length_table}
use Rattle.ap_types.proofs.LoadLemmas.{LoadsSome, loads_first, loads_more, loads_end, equation_next, bound_next}
use Rattle.ap_types.proofs.loading.load_all.Goals as goal

pub loop-e-init : goal.loop-e-init
loop-e-init c =
    let ns = c.args.loaded.nodes.items in
    let ps = c.args.loaded.pairs.items in
    loads_first (shapes_of_nodes ns) ps (map equation_of c.args.equations.now) c.requires.formed
    (subst (λ n. ArePairsWithin n ps) (sym (length_table ns)) c.requires.within)
    (let l = length_table ns in omega (arith, c.requires.bound))

pub load_equation-requires-clause-formed : goal.load_equation-requires-clause-formed
load_equation-requires-clause-formed c = c.loop-e.invariant.formed

pub load_equation-requires-clause-left : goal.load_equation-requires-clause-left
load_equation-requires-clause-left c =
    let ns = c.loop-e.all.nodes.items in
    let b = bound_next c.args.equations.now c.loop-e.e-index c.e-item.result (length (shapes_of_nodes ns)) c.loop-e-test.true c.e-item.is c.loop-e.invariant.bound in
    let l = length_table ns in
    omega (arith, b.0)

pub load_equation-requires-clause-right : goal.load_equation-requires-clause-right
load_equation-requires-clause-right c =
    let ns = c.loop-e.all.nodes.items in
    let b = bound_next c.args.equations.now c.loop-e.e-index c.e-item.result (length (shapes_of_nodes ns)) c.loop-e-test.true c.e-item.is c.loop-e.invariant.bound in
    let l = length_table ns in
    omega (arith, b.1)

pub load_equation-requires-clause-within : goal.load_equation-requires-clause-within
load_equation-requires-clause-within c = subst (λ n. ArePairsWithin n c.loop-e.all.pairs.items) (length_table c.loop-e.all.nodes.items) c.loop-e.invariant.within

pub loop-e-preserved : goal.loop-e-preserved
loop-e-preserved c =
    let ts = shapes_of_nodes c.args.loaded.nodes.items in
    let us = shapes_of_nodes c.loop-e.all.nodes.items in
    let vs = shapes_of_nodes c.in_ok-all.all.nodes.items in
    let ps = c.args.loaded.pairs.items in
    let all = map equation_of c.args.equations.now in
    let next = subst (LoadsSome ts ps all us c.loop-e.all.pairs.items) (equation_next c.args.equations.now c.loop-e.e-index c.e-item.result c.loop-e-test.true c.e-item.is) c.loop-e.invariant in
    loads_more ts ps all us vs c.loop-e.all.pairs.items c.in_ok-all.all.pairs.items (shape_of c.e-item.result.0) (shape_of c.e-item.result.1)
    (map equation_of (drop (c.loop-e.e-index + 1) c.args.equations.now)) next c.in_ok-all.ensures

pub returns : goal.returns
returns c =
    let ts = shapes_of_nodes c.args.loaded.nodes.items in
    let us = shapes_of_nodes c.loop-e.all.nodes.items in
    let ps = c.args.loaded.pairs.items in
    let all = map equation_of c.args.equations.now in
    let none = ap (map equation_of) (drop_all c.loop-e.e-index c.args.equations.now (omega (arith, c.loop-e-test.false))) in
    loads_end ts ps all us c.loop-e.all.pairs.items (subst (LoadsSome ts ps all us c.loop-e.all.pairs.items) none c.loop-e.invariant)
