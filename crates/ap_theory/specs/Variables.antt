-- The variables of terms, and lists of bindings that are idempotent as substitutions.
use Rattle.std.specs.Prelude.{◌≡◌, Bool, true, false, ◌||◌, List, [], ◌∷◌}
use Rattle.ap_defs.specs.Freshness.{Conds, var_eq}
use Rattle.ap_defs.specs.Substitution.{Binding, occurs, ◌:=◌}
use Rattle.ap_defs.specs.Terms.{NominalTerm}
use Rattle.ap_defs.specs.declared.terms.Var.{Var}

-- each variable of the term has the property
abbrev pub EachVar : (Var → Type 0) → NominalTerm → Type 0
EachVar P t = (x : Var) → occurs x t ≡ true → P x

abbrev pub EachTerm : (Var → Type 0) → List NominalTerm → Type 0
EachTerm P [] = Unit {0}
EachTerm P (t ∷ ts) = EachVar P t × EachTerm P ts

abbrev pub EachCond : (Var → Type 0) → Conds → Type 0
EachCond P [] = Unit {0}
EachCond P (c ∷ cs) = P c.var × EachCond P cs

-- the bound variable too
abbrev pub EachBinding : (Var → Type 0) → List Binding → Type 0
EachBinding P [] = Unit {0}
EachBinding P ((x := t) ∷ bs) = (P x × EachVar P t) × EachBinding P bs

abbrev pub is_bound : Var → List Binding → Bool
is_bound x [] = false
is_bound x ((y := t) ∷ bs) = var_eq x y || is_bound x bs

abbrev pub IsUnbound : List Binding → Var → Type 0
IsUnbound bs x = is_bound x bs ≡ false

-- the second list binds terms without variables that the first one binds
abbrev pub BindsUnbound : List Binding → List Binding → Type 0
BindsUnbound bs [] = Unit {0}
BindsUnbound bs ((x := t) ∷ cs) = EachVar (IsUnbound bs) t × BindsUnbound bs cs

-- no variable is bound twice
abbrev pub BindsOnce : List Binding → Type 0
BindsOnce [] = Unit {0}
BindsOnce ((x := t) ∷ bs) = IsUnbound bs x × BindsOnce bs

-- no variable is bound twice, and no bound one stands in a bound term
abbrev pub IsIdempotent : List Binding → Type 0
IsIdempotent bs = BindsUnbound bs bs × BindsOnce bs
