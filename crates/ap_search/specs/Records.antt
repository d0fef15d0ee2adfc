-- Answers by the variables that clauses and `exists` brought, without the derivation.
use Rattle.std.specs.Prelude.{◌≡◌, List, [], ◌++◌, map}
use Rattle.ap_defs.specs.declared.terms.Var.{Var}
use Rattle.ap_defs.specs.Answers.{NominalAnswer, ascending_vars, binds_in, closed_term, typed_vars}
use Rattle.ap_defs.specs.Derivations.{NominalDerivation, terms_in}
use Rattle.ap_defs.specs.Freshness.{Conds}
use Rattle.ap_defs.specs.Occurrences.{vars_of_terms}
use Rattle.ap_defs.specs.Resolution.{State}
use Rattle.ap_defs.specs.Terms.{NominalTerm, susp}
use Rattle.ap_defs.specs.Types.{NominalLocal}
use Rattle.ap_defs.specs.Unification.{has_var}

-- two lists of variables with the same members
abbrev pub SameVars : List Var → List Var → Type 0
SameVars xs ys = (x : Var) → has_var x xs ≡ has_var x ys

-- what variables are bound to, or themselves
abbrev pub closed_vars : State → List Var → List NominalTerm
closed_vars s xs = map (λ x. closed_term s (susp [] x)) xs

-- the variables of bindings, of conditions and of what stands for further variables
abbrev pub vars_with : List NominalTerm → Conds → List NominalTerm → List Var
vars_with binds conds ts = ascending_vars (vars_of_terms binds ++ map (λ c. c.var) conds ++ vars_of_terms ts)

-- what is answered in a state, where clauses and `exists` brought these variables
abbrev pub Answering : Type 0
Answering = State → List Var → NominalAnswer

-- the answer of a state to a query with these identifiers, where clauses and `exists` brought the variables xs
abbrev pub answer_with : List NominalLocal → Answering
answer_with locals s xs = record {
  binds = binds_in locals s;
  conds = s.conditions;
  vars = typed_vars s.kinds (vars_with (binds_in locals s) s.conditions (closed_vars s xs));
}

-- the variables of a derivation in which a variable stands for itself
abbrev pub vars_brought : NominalDerivation → List Var
vars_brought d = vars_of_terms (terms_in d)
