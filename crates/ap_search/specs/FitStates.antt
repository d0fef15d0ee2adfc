-- States as the search of a well formed query has them: bindings are carried out, conditions are on unbound variables, and every
-- number is below the next one.
use Rattle.std.specs.Prelude.{◌<◌, ◌^◌, ℕ, List, [], ◌∷◌, length}
use Rattle.ap_defs.specs.Freshness.{Conds}
use Rattle.ap_defs.specs.Goals.{Clauses, NominalClause}
use Rattle.ap_defs.specs.Renaming.{AreBelow, AreBindingsBelow, IsGoalBelow}
use Rattle.ap_defs.specs.Resolution.{Output, State, cut, found, next_number, chose, stuck}
use Rattle.ap_theory.specs.Variables.{EachCond, IsIdempotent, IsUnbound}

abbrev pub AreCondsBelow : ℕ → Conds → Type 0
AreCondsBelow n [] = Unit {0}
AreCondsBelow n (c ∷ cs) = ((c.name.num < n) × (c.var.num < n)) × AreCondsBelow n cs

pub record IsFitState (s : State) : Type 0 where
  pub bindings : AreBindingsBelow (next_number s) s.bindings
  pub conditions : AreCondsBelow (next_number s) s.conditions
  pub idempotent : IsIdempotent s.bindings
  pub unbound : EachCond (IsUnbound s.bindings) s.conditions

-- the numbers of a clause are those of its identifiers
abbrev pub IsFitClause : NominalClause → Type 0
IsFitClause c = AreBelow (length c.locals) c.args × IsGoalBelow (length c.locals) c.body

abbrev pub AreFitClauses : List NominalClause → Type 0
AreFitClauses [] = Unit {0}
AreFitClauses (c ∷ cs) = IsFitClause c × AreFitClauses cs

abbrev pub IsFitProgram : Clauses → Type 0
IsFitProgram [] = Unit {0}
IsFitProgram (cs ∷ css) = AreFitClauses cs × IsFitProgram css

-- each state that was found has the property
abbrev pub AllFound : (State → Type 0) → List Output → Type 0
AllFound P [] = Unit {0}
AllFound P (found p s d ∷ os) = P s × AllFound P os
AllFound P (cut p ∷ os) = AllFound P os
AllFound P (stuck p ∷ os) = AllFound P os
AllFound P (chose p c ∷ os) = AllFound P os

-- the clauses of each predicate can be numbered
abbrev pub AreShort : Clauses → Type 0
AreShort [] = Unit {0}
AreShort (cs ∷ css) = (length cs < 2 ^ 32) × AreShort css
