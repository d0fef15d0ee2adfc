use Rattle.std.proofs.Common.{◌≡◌, ◌<◌, ◌∙◌, length, set, get_or, List, subst, sym, ap, arith}
use Rattle.ap_defs.specs.Types.{TypeShape, hole}
use Rattle.ap_types.specs.declared.nodes.Node.TheVariants as nodes
use Rattle.ap_types.specs.Triangular.{layer_of, shapes_of_nodes}
use Rattle.ap_types.specs.Joining.{Joins, fuller, pairs_of}
use Rattle.ap_types.proofs.TableLemmas.{table_set, length_table, layer_at}
use Rattle.ap_types.proofs.JoinLemmas.{joins_roots}
use Rattle.ap_types.proofs.joining.join_roots.Goals as goal

pub returns-in-Some : goal.returns-in-Some
returns-in-Some c =
    let ns = c.args.nodes.now in
    let ts = shapes_of_nodes ns in
    let a = get_or ns c.args.keep (nodes.Place 0) in
    let b = get_or ns c.args.gone (nodes.Place 0) in
    let long = length_table ns in
    let gone : c.args.gone < length ts = omega (arith, c.requires.within) in
    let keep : c.args.keep < length ns = omega (arith, c.requires.within, c.requires.order) in
    let is : shapes_of_nodes (set (set ns c.args.keep c.fuller.result) c.args.gone (nodes.Place c.args.keep)) ≡ set (set ts c.args.keep (layer_of (fuller a b))) c.args.gone (hole c.args.keep) =
    table_set (set ns c.args.keep c.fuller.result) c.args.gone (nodes.Place c.args.keep)
    ∙ ap (λ (us : List TypeShape). set us c.args.gone (hole c.args.keep)) (table_set ns c.args.keep c.fuller.result ∙ ap (λ n. set ts c.args.keep (layer_of n)) c.fuller.ensures) in
    subst (λ (us : List TypeShape). Joins ts c.args.keep c.args.gone us (pairs_of c.in-Some.rest)) (sym is)
    (joins_roots ts c.args.keep c.args.gone a b c.requires.formed c.requires.order gone (layer_at ns c.args.keep keep) (layer_at ns c.args.gone c.requires.within) c.requires.kept c.requires.joined
    (pairs_of c.in-Some.rest) c.in-Some.ensures)
