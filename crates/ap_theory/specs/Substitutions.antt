-- Substitutions: a term for each variable, and what it is for one to solve a problem of unification.
use Rattle.std.specs.Prelude.{List, [], ◌∷◌, Option, Some, None}
use Rattle.ap_defs.specs.Freshness.{Conds}
use Rattle.ap_defs.specs.Substitution.{Binding, Equation, Problem, bound_term, ◌#◌, ◌:=◌, ◌≐◌}
use Rattle.ap_defs.specs.Terms.{NominalTerm, abs, act_term, app, name, pair, susp, unit}
use Rattle.ap_defs.specs.Unification.{Unified}
use Rattle.ap_defs.specs.declared.terms.Cond.{Cond}
use Rattle.ap_defs.specs.declared.terms.Var.{Var}
use Rattle.ap_theory.specs.Contexts.{Context, Equal, Fresh}

abbrev pub Substitution : Type 0
Substitution = Var → NominalTerm

-- each suspension is its permutation, acting on the variable's term; a binder may capture
abbrev pub applied : Substitution → NominalTerm → NominalTerm
applied s unit = unit
applied s (name a) = name a
applied s (pair t u) = pair (applied s t) (applied s u)
applied s (app f t) = app f (applied s t)
applied s (abs a t) = abs a (applied s t)
applied s (susp p x) = act_term p (s x)

-- each variable for itself
abbrev pub variables : Substitution
variables x = susp [] x

abbrev pub bound_or_itself : Var → Option NominalTerm → NominalTerm
bound_or_itself x None = susp [] x
bound_or_itself x (Some t) = t

-- what a list of bindings says of each variable
abbrev pub substitution_of : List Binding → Substitution
substitution_of bs x = bound_or_itself x (bound_term bs x)

-- the substitution meets each condition
abbrev pub Meets : Context → Substitution → Conds → Type 0
Meets d s [] = Unit {0}
Meets d s (c ∷ cs) = Fresh d c.name (s c.var) × Meets d s cs

-- each bound variable has what its binding gives
abbrev pub Agrees : Context → Substitution → List Binding → Type 0
Agrees d s [] = Unit {0}
Agrees d s ((x := t) ∷ bs) = Equal d (s x) (applied s t) × Agrees d s bs

-- the two sides of each equation are equal
abbrev pub Equates : Context → Substitution → List Equation → Type 0
Equates d s [] = Unit {0}
Equates d s ((t ≐ u) ∷ es) = Equal d (applied s t) (applied s u) × Equates d s es

-- the name of each problem is fresh for its term
abbrev pub Freshens : Context → Substitution → List Problem → Type 0
Freshens d s [] = Unit {0}
Freshens d s ((a # t) ∷ ps) = Fresh d a (applied s t) × Freshens d s ps

-- the terms at each place are equal
abbrev pub EquatesAll : Context → Substitution → List NominalTerm → List NominalTerm → Type 0
EquatesAll d s (t ∷ ts) (u ∷ us) = Equal d (applied s t) (applied s u) × EquatesAll d s ts us
EquatesAll d s _ _ = Unit {0}

-- the substitution meets the conditions, where there are some
abbrev pub MeetsSome : Context → Substitution → Option (List Cond) → Type 0
MeetsSome d s None = ⊥
MeetsSome d s (Some cs) = Meets d s cs

-- the substitution is among the instances of what unification gave
abbrev pub IsInstance : Context → Substitution → Option Unified → Type 0
IsInstance d s None = ⊥
IsInstance d s (Some r) = Agrees d s r.bindings × Meets d s r.conditions
