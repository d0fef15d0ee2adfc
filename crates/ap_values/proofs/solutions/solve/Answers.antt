use Rattle.std.proofs.Common.{◌≡◌, ◌∙◌, ◌↔◌, List, map, length, sym, ap, subst}
use Rattle.std.proofs.lemmas.List.{length-map}
use Rattle.ap_defs.specs.Types.{TypeShape, shape_of}
use Rattle.ap_types.specs.Equations.{Filling, equation_of, IsSolution, IsShapeInstance, GivesNames}
use Rattle.ap_types.specs.Triangular.{shapes_of_nodes, assignment_of}
use Rattle.ap_types.proofs.SettledLemmas.{length_values}
use Rattle.ap_values.proofs.solutions.solve.Goals as goal

pub returns-clause-in_order : goal.returns-clause-in_order
returns-clause-in_order c =
    let s = c.in_ok-solved.solved in
    ap length c.of.ensures ∙ sym (length-map c.in_ok-holes.holes.items shape_of) ∙ ap length c.in_ok-holes.ensures ∙ length_values (shapes_of_nodes s.nodes.items) 0 s.holes
    ∙ c.in_ok-solved.ensures.in_order

pub returns-clause-most_general : goal.returns-clause-most_general
returns-clause-most_general c =
    let es = map equation_of c.args.equations.items in
    let xs = c.args.names.now in
    let n = c.args.name_types in
    let is : map shape_of c.of.result ≡ assignment_of c.in_ok-solved.solved = ap (map shape_of) c.of.ensures ∙ c.in_ok-holes.ensures in
    subst (λ (ts : List TypeShape). (f : Filling) → IsSolution es xs n f ↔ (IsShapeInstance ts f × GivesNames n f xs)) (sym is) c.in_ok-solved.ensures.most_general
