-- A table that says nothing, and the equations.
use Rattle.std.proofs.Common.{◌≡◌, [], List, map, ap, subst, arith}
use Rattle.ap_types.specs.declared.nodes.Node.{Node}
use Rattle.ap_types.specs.Equations.{equation_of, hole_count, Filling, IsSolution, IsShapeInstance, GivesNames}
use Rattle.ap_types.specs.Assignments.{IsUnsolvable}
use Rattle.ap_types.specs.Triangular.{shapes_of_nodes, AreFormed, assignment_of}
use Rattle.ap_types.specs.Growing.{IsTableSolution, IsTableUnsolvable}
use Rattle.ap_types.proofs.EquationLemmas.{empty_formed, none_most_general, none_solvable, none_unsolvable, none_count, given, given_err}
use Rattle.ap_types.proofs.equations.solved.Goals as goal

pub solved_table-requires : goal.solved_table-requires
solved_table-requires c = empty_formed c.new.result.items c.new.ensures.items

pub returns-clause-in_order : goal.returns-clause-in_order
returns-clause-in_order c =
    given c.solved_table.result (λ s h. none_count c.new.result.items s.holes (hole_count (map equation_of c.args.equations.items) c.args.names.now) c.new.ensures.items h) c.solved_table.ensures.in_order

pub returns-clause-most_general : goal.returns-clause-most_general
returns-clause-most_general c =
    given c.solved_table.result (λ s h. none_most_general c.new.result.items (map equation_of c.args.equations.items) c.args.names.now c.args.name_types (assignment_of s) c.new.ensures.items h) c.solved_table.ensures.most_general

pub returns-clause-solvable : goal.returns-clause-solvable
returns-clause-solvable c =
    given c.solved_table.result (λ s h. none_solvable c.new.result.items (map equation_of c.args.equations.items) c.args.names.now c.args.name_types c.new.ensures.items h) c.solved_table.ensures.solvable

pub returns-clause-clash : goal.returns-clause-clash
returns-clause-clash c =
    given_err c.solved_table.result (λ e h i. none_unsolvable c.new.result.items (map equation_of c.args.equations.items) c.args.names.now c.args.name_types c.new.ensures.items (h i)) c.solved_table.ensures.clash
