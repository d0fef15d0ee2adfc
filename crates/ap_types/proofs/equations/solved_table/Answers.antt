use Rattle.std.proofs.Common.{◌≡◌, ◌<◌, ◌∙◌, ◌++◌, [], List, true, false, map, length, refl, sym, ap, subst, rules, arith}
use Rattle.std.proofs.lemmas.List.{nil_from_length}
use Rattle.std.proofs.lemmas.Result.{err_from_is_err_and}
use Rattle.ap_types.specs.Equations.{ShapeEquation, equation_of, hole_count}
use Rattle.ap_types.specs.Assignments.{IsUnsolvable, AreNames}
use Rattle.ap_types.specs.Triangular.{shapes_of_nodes, assignment_of}
use Rattle.ap_types.specs.Growing.{table_equations, IsTableUnsolvable}
use Rattle.ap_types.proofs.TableLemmas.{length_table}
use Rattle.ap_types.proofs.EquationLemmas.{table_solution, table_unsolvable, table_count}
use Rattle.ap_types.proofs.NameLemmas.{narrows_most_general, narrows_constrained, narrows_solvable, narrows_unsolvable, unsolvable_without}
use Rattle.ap_types.proofs.equations.solved_table.Goals as goal
use Rattle.ap_types.proofs.equations.solved_table.Goals.{else-name_types-eq0-via-then-name_types-eq0+else-names-gt0, else-name_types-eq0-via-else-name_types-eq0}

pub returns-then-names-gt0-clause-clash : goal.returns-then-names-gt0-clause-clash
returns-then-names-gt0-clause-clash c =
    let none : c.args.name_types ≡ 0 = c.if-name_types-eq0.true in
    let some : 0 < length c.args.names.now = omega arith in
    let ts = shapes_of_nodes c.args.nodes.items in
    let es = map equation_of c.args.equations.items in
    λ e. subst (IsTableUnsolvable ts es c.args.names.now) (sym none) (table_unsolvable ts es c.args.names.now 0 (unsolvable_without (table_equations 0 ts ++ es) c.args.names.now some))

pub returns-then-not-are_names_or_holes-clause-clash : goal.returns-then-not-are_names_or_holes-clause-clash
returns-then-not-are_names_or_holes-clause-clash c =
    let refused : c.are_names_or_holes.result ≡ false = search rules in
    let ts = shapes_of_nodes c.args.nodes.items in
    let es = map equation_of c.args.equations.items in
    λ e. table_unsolvable ts es c.args.names.now c.args.name_types
    (narrows_unsolvable (table_equations 0 ts ++ es) c.args.names.now c.args.name_types (assignment_of c.in_ok-solved.solved) c.in_ok-solved.ensures.narrows
    (λ k. let found : c.are_names_or_holes.result ≡ true = c.are_names_or_holes.ensures.1 k in cc))

pub returns-in_err-solved-clause-clash : goal.returns-in_err-solved-clause-clash
returns-in_err-solved-clause-clash c =
    let ts = shapes_of_nodes c.args.nodes.items in
    let es = map equation_of c.args.equations.items in
    let p = err_from_is_err_and c.from_residual.result c.from_residual.ensures.1 in
    rw (p.1, p.2) (λ e. table_unsolvable ts es c.args.names.now c.args.name_types (c.in_err-solved.ensures.clash e))

named : (c : goal.Else-not-are_names_or_holes) → (c.args.name_types ≡ 0 → c.args.names.now ≡ [])
named c = elim c.else-name_types-eq0.branch [
  | else-name_types-eq0-via-then-name_types-eq0+else-names-gt0 w ↦ λ e. nil_from_length c.args.names.now (omega arith)
  | else-name_types-eq0-via-else-name_types-eq0 w ↦ λ e. absurd (omega arith)
]

names_are : (c : goal.Else-not-are_names_or_holes) → AreNames c.args.name_types (assignment_of c.in_ok-solved.solved) c.args.names.now
names_are c =
    narrows_constrained (table_equations 0 (shapes_of_nodes c.args.nodes.items) ++ map equation_of c.args.equations.items) c.args.names.now c.args.name_types (assignment_of c.in_ok-solved.solved)
    c.in_ok-solved.ensures.narrows (named c) (c.if-not-are_names_or_holes.ensures.0 refl)

pub returns-clause-in_order : goal.returns-clause-in_order
returns-clause-in_order c =
    let ns = c.args.nodes.items in
    let es = map equation_of c.args.equations.items in
    let n = table_count (shapes_of_nodes ns) es c.args.names.now c.requires in
    let long = length_table ns in
    omega (arith, n, long, c.in_ok-solved.ensures.holes)

pub returns-clause-most_general : goal.returns-clause-most_general
returns-clause-most_general c = λ f.
    let ts = shapes_of_nodes c.args.nodes.items in
    let es = map equation_of c.args.equations.items in
    let k = table_solution ts es c.args.names.now c.args.name_types f in
    let m = narrows_most_general (table_equations 0 ts ++ es) c.args.names.now c.args.name_types (assignment_of c.in_ok-solved.solved) c.in_ok-solved.ensures.narrows f in
    ((λ s. m.0 (k.0 s)), (λ s. k.1 (m.1 s)))

pub returns-clause-constrained : goal.returns-clause-constrained
returns-clause-constrained c = names_are c

pub returns-clause-solvable : goal.returns-clause-solvable
returns-clause-solvable c =
    let ts = shapes_of_nodes c.args.nodes.items in
    let es = map equation_of c.args.equations.items in
    let s = narrows_solvable (table_equations 0 ts ++ es) c.args.names.now c.args.name_types (assignment_of c.in_ok-solved.solved) c.in_ok-solved.ensures.narrows (names_are c) in
    (s.0, (table_solution ts es c.args.names.now c.args.name_types s.0).1 s.1)
