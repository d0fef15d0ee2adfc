-- Answers by the variables that a state leaves unbound.
use Rattle.std.specs.Prelude.{not, List, ◌++◌, filter, map}
use Rattle.ap_defs.specs.Answers.{ascending_vars, binds_in, typed_vars}
use Rattle.ap_defs.specs.Freshness.{Conds}
use Rattle.ap_defs.specs.Occurrences.{vars_of_terms}
use Rattle.ap_defs.specs.Resolution.{State}
use Rattle.ap_defs.specs.Terms.{NominalTerm}
use Rattle.ap_defs.specs.Types.{NominalLocal}
use Rattle.ap_defs.specs.declared.terms.Var.{Var}
use Rattle.ap_search.specs.Records.{Answering}
use Rattle.ap_theory.specs.Variables.{is_bound}

-- those of some variables that stand for themselves
abbrev pub unbound_vars : State → List Var → List Var
unbound_vars s xs = filter (λ x. not (is_bound x s.bindings)) xs

-- the set of the variables of bindings, of conditions and of further ones
abbrev pub vars_besides : List NominalTerm → Conds → List Var → List Var
vars_besides binds conds others = ascending_vars (vars_of_terms binds ++ map (λ c. c.var) conds ++ others)

-- The answer of a state to a query with these identifiers, in which of the variables that clauses and `exists` brought the unbound ones
-- are seen alone. Of a typed program that is all that there is to be seen.
abbrev pub answer_by_unbound : List NominalLocal → Answering
answer_by_unbound locals s xs = record {
  binds = binds_in locals s;
  conds = s.conditions;
  vars = typed_vars s.kinds (vars_besides (binds_in locals s) s.conditions (unbound_vars s xs));
}
