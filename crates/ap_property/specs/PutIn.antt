-- The conclusion of a property, with ground terms put in for its free variables.
use Rattle.std.specs.Prelude.{ℕ, false, List, [], ◌∷◌, ◌++◌, map}
use Rattle.ap_defs.specs.declared.terms.Var.{Var}
use Rattle.ap_defs.specs.Goals.{NominalGoal, NominalProgram, NominalQuery, both, equal}
use Rattle.ap_defs.specs.Renaming.{local_vars}
use Rattle.ap_defs.specs.Terms.{GroundTerm, susp}
use Rattle.ap_defs.specs.Types.{NominalLocal, name}
use Rattle.ap_defs.specs.Typing.{embedded}
use Rattle.ap_property.specs.Properties.{conclusion}
use Rattle.ap_property.specs.Stated.{Instance}

-- each variable is equal to the term beside it, and then the goal
abbrev pub with_terms : List Var → List GroundTerm → NominalGoal → NominalGoal
with_terms (x ∷ xs) (t ∷ ts) g = both (equal (susp [] x) (embedded t)) (with_terms xs ts g)
with_terms _ _ g = g

-- a free identifier that is a name of the sort
abbrev pub name_local : ℕ → NominalLocal
name_local s = record { kind = name s; bound = false; text = [] }

-- the query of the conclusion, in which each free variable is equal to a term
abbrev pub query_put_in : NominalQuery → Instance → NominalQuery
query_put_in q i = record q {
  goal = with_terms (local_vars 0 q.locals) i.terms (conclusion q.goal);
  locals = q.locals ++ map name_local i.sorts;
}

-- the program with one query
abbrev pub asking : NominalProgram → NominalQuery → NominalProgram
asking p q = record p { queries = q ∷ [] }
