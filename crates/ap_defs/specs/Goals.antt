-- Goals, clauses, queries and programs over terms of some form.
use Rattle.std.specs.Prelude.{ℕ, zero, suc, List, [], ◌∷◌, map}
use Rattle.ap_defs.specs.declared.terms.Name.{Name}
use Rattle.ap_defs.specs.declared.terms.Var.{Var}
use Rattle.ap_defs.specs.declared.terms.Term.{Term}
use Rattle.ap_defs.specs.declared.goals.Goal as code
use Rattle.ap_defs.specs.declared.goals.Clause.{Clause}
use Rattle.ap_defs.specs.declared.goals.Query.{Query}
use Rattle.ap_defs.specs.declared.goals.Program.{Program}
use Rattle.ap_defs.specs.Terms.{NominalTerm, term_of}
use Rattle.ap_defs.specs.Types.{NominalLocal, locals_of, NominalSignature, signature_of}

pub data GoalOver (T : Type 0) : Type 0 where
  succeed : GoalOver T
  atom : ℕ → List T → GoalOver T
  equal : T → T → GoalOver T
  fresh : T → T → GoalOver T
  both : GoalOver T → GoalOver T → GoalOver T
  either : GoalOver T → GoalOver T → GoalOver T
  exists : Var → GoalOver T → GoalOver T
  new : Name → GoalOver T → GoalOver T

-- a goal of the program, without where it lies in memory
abbrev pub goal_over : {A T : Type 0} → (A → T) → code.Goal A → GoalOver T
goal_over view code.True = succeed
goal_over view (code.Atom p ts) = atom p (map view ts)
goal_over view (code.Equal t u) = equal (view t) (view u)
goal_over view (code.Fresh t u) = fresh (view t) (view u)
goal_over view (code.Both' p g q h) = both (goal_over view g) (goal_over view h)
goal_over view (code.Either' p g q h) = either (goal_over view g) (goal_over view h)
goal_over view (code.Exists' x p g) = exists x (goal_over view g)
goal_over view (code.New' a p g) = new a (goal_over view g)

-- A clause of a predicate: head arguments, body, and identifiers, of which number i is the i-th from 0.
pub record ClauseOver (T : Type 0) : Type 0 where
  pub item : ℕ
  pub line : ℕ
  pub pred : ℕ
  pub args : List T
  pub body : GoalOver T
  pub locals : List NominalLocal

abbrev pub clause_over : {A T : Type 0} → (A → T) → Clause A → ClauseOver T
clause_over view c = record {
  item = c.item;
  line = c.line;
  pred = c.pred;
  args = map view c.args;
  body = goal_over view c.body;
  locals = locals_of c.locals;
}

pub record QueryOver (T : Type 0) : Type 0 where
  pub item : ℕ
  pub line : ℕ
  pub goal : GoalOver T
  pub locals : List NominalLocal

abbrev pub query_over : {A T : Type 0} → (A → T) → Query A → QueryOver T
query_over view q = record { item = q.item; line = q.line; goal = goal_over view q.goal; locals = locals_of q.locals }

-- A program: what it declares, the clauses of each predicate and the queries in order, and the words of its text.
pub record ProgramOver (T : Type 0) : Type 0 where
  pub signature : NominalSignature
  pub clauses : List (List (ClauseOver T))
  pub queries : List (QueryOver T)
  pub words : List (List ℕ)

abbrev pub program_over : {A T : Type 0} → (A → T) → Program A → ProgramOver T
program_over view p = record {
  signature = signature_of p.signature;
  clauses = map (map (clause_over view)) p.clauses;
  queries = map (query_over view) p.queries;
  words = p.words;
}

-- Over nominal terms.
abbrev pub NominalGoal : Type 0
NominalGoal = GoalOver NominalTerm

abbrev pub NominalClause : Type 0
NominalClause = ClauseOver NominalTerm

abbrev pub NominalQuery : Type 0
NominalQuery = QueryOver NominalTerm

abbrev pub NominalProgram : Type 0
NominalProgram = ProgramOver NominalTerm

abbrev pub goal_of : code.Goal Term → NominalGoal
goal_of = goal_over term_of

abbrev pub clause_of : Clause Term → NominalClause
clause_of = clause_over term_of

-- the clauses of each predicate, as a program holds them
abbrev pub program_in : List (List (Clause Term)) → List (List NominalClause)
program_in css = map (map clause_of) css

abbrev pub query_of : Query Term → NominalQuery
query_of = query_over term_of

abbrev pub program_of : Program Term → NominalProgram
program_of = program_over term_of

-- the clauses of each predicate, in the order of the text
abbrev pub Clauses : Type 0
Clauses = List (List NominalClause)

abbrev pub clauses_of : Clauses → ℕ → List NominalClause
clauses_of [] p = []
clauses_of (cs ∷ css) zero = cs
clauses_of (cs ∷ css) (suc p) = clauses_of css p
