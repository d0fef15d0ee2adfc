-- Short words for writing programs down.
use Rattle.std.proofs.Common.{ℕ, true, false, List, [], ◌∷◌}
use Rattle.ap_defs.specs.declared.terms.Name.{Name}
use Rattle.ap_defs.specs.Terms.{NominalTerm, susp}
use Rattle.ap_defs.specs.Types as types
use Rattle.ap_defs.specs.Types.{NominalType, NominalLocal, NominalConstructor, NominalSignature}
use Rattle.ap_defs.specs.Goals.{NominalGoal, NominalClause, NominalQuery, NominalProgram, Clauses}

-- the name of a sort with a number
abbrev pub n : ℕ → ℕ → Name
n sort num = record { sort = sort; num = num }

-- a variable
abbrev pub v : ℕ → NominalTerm
v num = susp [] (record { num = num })

-- a free name of a sort
abbrev pub named : ℕ → List ℕ → NominalLocal
named sort text = record { kind = types.name sort; bound = false; text = text }

-- a name that `new` brings
abbrev pub brought_name : ℕ → List ℕ → NominalLocal
brought_name sort text = record { kind = types.name sort; bound = true; text = text }

-- a free variable of a type
abbrev pub variable : NominalType → List ℕ → NominalLocal
variable type text = record { kind = types.var type; bound = false; text = text }

-- a variable that `exists` brings
abbrev pub some_variable : NominalType → List ℕ → NominalLocal
some_variable type text = record { kind = types.var type; bound = true; text = text }

abbrev pub constructor : List ℕ → List NominalType → ℕ → NominalConstructor
constructor text args result = record { text = text; args = args; result = result }

abbrev pub signature : List (List ℕ) → List (List ℕ) → List NominalConstructor → List (List NominalType) → NominalSignature
signature sorts datas constructors predicates =
    record { name_types = sorts; data_types = datas; constructors = constructors; predicates = predicates }

abbrev pub clause : ℕ → List NominalTerm → NominalGoal → List NominalLocal → NominalClause
clause pred args body locals = record { item = 0; line = 0; pred = pred; args = args; body = body; locals = locals }

abbrev pub query : NominalGoal → List NominalLocal → NominalQuery
query goal locals = record { item = 0; line = 0; goal = goal; locals = locals }

abbrev pub program : NominalSignature → Clauses → NominalQuery → List (List ℕ) → NominalProgram
program sig clauses q words = record { signature = sig; clauses = clauses; queries = q ∷ []; words = words }

abbrev pub programs : NominalSignature → Clauses → List NominalQuery → List (List ℕ) → NominalProgram
programs sig clauses queries words = record { signature = sig; clauses = clauses; queries = queries; words = words }
