-- Answers, and outputs with the answer of each state that was found.
use Rattle.std.specs.Prelude.{ℕ, zero, suc, nat_lt, if◌then◌else◌, List, [], ◌∷◌, ◌++◌, map, filter, Option, Some, None}
use Rattle.ap_defs.specs.declared.terms.Var.{Var}
use Rattle.ap_defs.specs.declared.terms.Ty.{Ty}
use Rattle.ap_defs.specs.declared.outcomes.Answer.{Answer}
use Rattle.ap_defs.specs.declared.paths.Out.{Out}
use Rattle.ap_defs.specs.declared.paths.Out.TheVariants as code
use Rattle.ap_defs.specs.Terms.{NominalTerm, susp, term_of}
use Rattle.ap_defs.specs.Freshness.{Conds, var_eq}
use Rattle.ap_defs.specs.Substitution.{under}
use Rattle.ap_defs.specs.Canonical.{canonical_term}
use Rattle.ap_defs.specs.Types as types
use Rattle.ap_defs.specs.Types.{NominalType, NominalKind, NominalLocal, type_of}
use Rattle.ap_defs.specs.Goals.{NominalQuery, Clauses}
use Rattle.ap_defs.specs.Occurrences.{vars_of_terms}
use Rattle.ap_defs.specs.Renaming.{local_vars}
use Rattle.ap_defs.specs.Derivations.{NominalDerivation, map_terms, terms_in}
use Rattle.ap_defs.specs.PathOrder.{has_prefix}
use Rattle.ap_defs.specs.Resolution as search
use Rattle.ap_defs.specs.Resolution.{State, Output, solve_query}

-- The bindings of the query's free variables in order, the conditions, and the unbound variables with their types.
pub record NominalAnswer : Type 0 where
  pub binds : List NominalTerm
  pub conds : Conds
  pub vars : List (Var × NominalType)

abbrev pub typed_var_of : Var × Ty → Var × NominalType
typed_var_of v = (v.0, type_of v.1)

-- an answer of the program, without where it lies in memory
abbrev pub answer_of : Answer → NominalAnswer
answer_of a = record { binds = map term_of a.binds; conds = a.conds; vars = map typed_var_of a.vars }

-- a set of variables is the ascending list of its members
abbrev pub add_var : Var → List Var → List Var
add_var x [] = x ∷ []
add_var x (y ∷ ys) = if var_eq x y then (y ∷ ys) else (if nat_lt x.num y.num then (x ∷ y ∷ ys) else (y ∷ add_var x ys))

abbrev pub ascending_vars : List Var → List Var
ascending_vars [] = []
ascending_vars (x ∷ xs) = add_var x (ascending_vars xs)

-- the kind of a number
abbrev pub kind_at : List NominalKind → ℕ → Option NominalKind
kind_at [] n = None
kind_at (k ∷ ks) zero = Some k
kind_at (k ∷ ks) (suc n) = kind_at ks n

abbrev pub with_type : Var → Option NominalKind → List (Var × NominalType) → List (Var × NominalType)
with_type x (Some (types.var t)) rest = (x, t) ∷ rest
with_type x _ rest = rest

-- variables with the types that they have by their kinds
abbrev pub typed_vars : List NominalKind → List Var → List (Var × NominalType)
typed_vars kinds [] = []
typed_vars kinds (x ∷ xs) = with_type x (kind_at kinds x.num) (typed_vars kinds xs)

-- a term under the state's bindings, with each suspension's list made canonical
abbrev pub closed_term : State → NominalTerm → NominalTerm
closed_term s t = canonical_term (under s.bindings t)

-- the bindings of an item's free variables in a state, in order
abbrev pub binds_in : List NominalLocal → State → List NominalTerm
binds_in locals s = map (λ x. closed_term s (susp [] x)) (local_vars zero locals)

-- the derivation of a state that was found
abbrev pub derivation_in : State → NominalDerivation → NominalDerivation
derivation_in s d = map_terms (closed_term s) d

-- the variables of an answer: those in its bindings, its conditions and its derivation
abbrev pub vars_in : List NominalTerm → Conds → NominalDerivation → List Var
vars_in binds conds d = ascending_vars (vars_of_terms binds ++ map (λ c. c.var) conds ++ vars_of_terms (terms_in d))

-- the answer of a state that was found, to a query with these identifiers
abbrev pub answer_in : List NominalLocal → State → NominalDerivation → NominalAnswer
answer_in locals s d = record {
  binds = binds_in locals s;
  conds = s.conditions;
  vars = typed_vars s.kinds (vars_in (binds_in locals s) s.conditions (derivation_in s d));
}

-- An output, with its path from the root and the answer of its state.
pub data NominalOut : Type 0 where
  found : List ℕ → NominalAnswer → NominalOut
  cut : List ℕ → NominalOut
  stuck : List ℕ → NominalOut

-- an output of the program, without where it lies in memory
abbrev pub out_of : Out → NominalOut
out_of (code.Found p a) = found p (answer_of a)
out_of (code.Cut p) = cut p
out_of (code.Stuck p) = stuck p

abbrev pub outs_of : List Out → List NominalOut
outs_of = map out_of

abbrev pub out_in : List NominalLocal → Output → NominalOut
out_in locals (search.found p s d) = found p (answer_in locals s d)
out_in locals (search.cut p) = cut p
out_in locals (search.stuck p) = stuck p
out_in locals (search.chose p c) = absurd c

-- the outputs of a query at a depth, with their answers
abbrev pub query_outs : Clauses → ℕ → NominalQuery → List NominalOut
query_outs program d q = map (out_in q.locals) (solve_query program d q)

abbrev pub out_path : NominalOut → List ℕ
out_path (found p a) = p
out_path (cut p) = p
out_path (stuck p) = p

-- the outputs of a query whose path has this prefix
abbrev pub outs_at : Clauses → ℕ → NominalQuery → List ℕ → List NominalOut
outs_at program d q p = filter (λ o. has_prefix p (out_path o)) (query_outs program d q)
