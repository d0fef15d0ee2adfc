-- Queries of restricted programs.
use Rattle.std.specs.Prelude.{◌≤◌, List, length}
use Rattle.ap_defs.specs.Goals.{Clauses, NominalProgram, NominalQuery, program_of}
use Rattle.ap_backchain.specs.declared.problem.Problem.{Problem}

abbrev pub program_of_problem : Problem → NominalProgram
program_of_problem p = program_of p.program.now

abbrev pub clauses_in : Problem → Clauses
clauses_in p = (program_of_problem p).clauses

abbrev pub queries_in : Problem → List NominalQuery
queries_in p = (program_of_problem p).queries

-- the program has a query of this number
abbrev pub HasQuery : Problem → Type 0
HasQuery p = (1 ≤ p.query) × (p.query ≤ length (queries_in p))
