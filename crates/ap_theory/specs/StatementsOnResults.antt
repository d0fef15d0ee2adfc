-- What is proved of the result of unification.
use Rattle.std.specs.Prelude.{◌≡◌, Bool, true, false, ◌&&◌, List, [], ◌∷◌, ◌==◌, Some, None}
use Rattle.ap_defs.specs.Freshness.{Conds, add_conds, alpha_under, fresh_under}
use Rattle.ap_defs.specs.Permutations.{name_eq}
use Rattle.ap_defs.specs.Substitution.{Binding, under}
use Rattle.ap_defs.specs.Terms.{NominalTerm, abs, app, name, pair, susp, unit}
use Rattle.ap_defs.specs.Unification.{Unified, unify}
use Rattle.ap_defs.specs.declared.terms.Var.{Var}
use Rattle.ap_theory.specs.Variables.{EachBinding, EachCond, EachTerm, IsIdempotent, IsUnbound, is_bound}

-- the terms at each place are equal under the conditions once the bindings are carried out
abbrev pub equal_all_under : Conds → List Binding → List NominalTerm → List NominalTerm → Bool
equal_all_under cs bs (t ∷ ts) (u ∷ us) = alpha_under cs (under bs t) (under bs u) && equal_all_under cs bs ts us
equal_all_under cs bs _ _ = true

-- the second conditions follow from the first once the bindings are carried out
abbrev pub fresh_all_under : Conds → List Binding → Conds → Bool
fresh_all_under cs bs [] = true
fresh_all_under cs bs (d ∷ ds) = fresh_under cs d.name (under bs (susp [] d.var)) && fresh_all_under cs bs ds

abbrev pub IdempotentTwiceIsOnce : Type 0
IdempotentTwiceIsOnce = (bs : List Binding) → IsIdempotent bs → (t : NominalTerm) → under bs (under bs t) ≡ under bs t

abbrev pub ResultIsIdempotent : Type 0
ResultIsIdempotent = (bs : List Binding) (ds : Conds) (ts us : List NominalTerm) (r : Unified) → IsIdempotent bs → unify bs ds ts us ≡ Some r
    → IsIdempotent r.bindings × EachCond (IsUnbound r.bindings) r.conditions

abbrev pub ResultExtends : Type 0
ResultExtends = (bs : List Binding) (ds : Conds) (ts us : List NominalTerm) (r : Unified) → IsIdempotent bs → unify bs ds ts us ≡ Some r
    → (t : NominalTerm) → under r.bindings (under bs t) ≡ under r.bindings t

abbrev pub BoundStaysBound : Type 0
BoundStaysBound = (bs : List Binding) (ds : Conds) (ts us : List NominalTerm) (r : Unified) → IsIdempotent bs → unify bs ds ts us ≡ Some r
    → (x : Var) → is_bound x bs ≡ true → is_bound x r.bindings ≡ true

-- under the bindings and the conditions of the result the two sides are equal
abbrev pub ResultEquates : Type 0
ResultEquates = (bs : List Binding) (ds : Conds) (ts us : List NominalTerm) (r : Unified) → IsIdempotent bs → unify bs ds ts us ≡ Some r
    → equal_all_under r.conditions r.bindings ts us ≡ true

-- and the first conditions follow
abbrev pub ResultMeets : Type 0
ResultMeets = (bs : List Binding) (ds : Conds) (ts us : List NominalTerm) (r : Unified) → IsIdempotent bs → unify bs ds ts us ≡ Some r
    → fresh_all_under r.conditions r.bindings ds ≡ true

-- what is true of each variable of the input is true of each variable of the result, so unification brings none of its own
abbrev pub ResultKeeps : Type 0
ResultKeeps = (test : Var → Bool) (bs : List Binding) (ds : Conds) (ts us : List NominalTerm) (r : Unified)
    → EachBinding (λ x. test x ≡ true) bs → EachCond (λ x. test x ≡ true) ds → EachTerm (λ x. test x ≡ true) ts → EachTerm (λ x. test x ≡ true) us
    → unify bs ds ts us ≡ Some r → EachBinding (λ x. test x ≡ true) r.bindings × EachCond (λ x. test x ≡ true) r.conditions

abbrev pub ResultConditionsAreASet : Type 0
ResultConditionsAreASet = (bs : List Binding) (ds : Conds) (ts us : List NominalTerm) (r : Unified) → unify bs ds ts us ≡ Some r → add_conds r.conditions [] ≡ r.conditions

-- false for two terms that no substitution makes equal since they begin differently
abbrev pub has_same_head : NominalTerm → NominalTerm → Bool
has_same_head (susp p x) u = true
has_same_head t (susp q y) = true
has_same_head unit unit = true
has_same_head (name a) (name b) = name_eq a b
has_same_head (pair t u) (pair v w) = true
has_same_head (app f t) (app g u) = f == g
has_same_head (abs a t) (abs b u) = a.sort == b.sort
has_same_head _ _ = false

abbrev pub have_same_heads : List Binding → List NominalTerm → List NominalTerm → Bool
have_same_heads bs (t ∷ ts) (u ∷ us) = has_same_head (under bs t) (under bs u) && have_same_heads bs ts us
have_same_heads bs _ _ = true

-- where a head differs at some place there is no result
abbrev pub NoResultWhereHeadsDiffer : Type 0
NoResultWhereHeadsDiffer = (bs : List Binding) (ds : Conds) (ts us : List NominalTerm) → IsIdempotent bs → have_same_heads bs ts us ≡ false → unify bs ds ts us ≡ None
