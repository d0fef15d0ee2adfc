-- Equations that follow from the bindings and the problems of a run, so that nothing is left of them.
use Rattle.std.specs.Prelude.{◌≡◌, ◌⊎◌, ℕ, nat_lt, if◌then◌else◌, length, List, [], ◌∷◌}
use Rattle.ap_defs.specs.Freshness.{Conds}
use Rattle.ap_defs.specs.Substitution.{Binding, Equation, Problem, under, ◌≐◌}
use Rattle.ap_defs.specs.Terms.{NominalTerm}
use Rattle.ap_defs.specs.Unification.{Progress, Stage, next, reduce_all, step}
use Rattle.ap_theory.specs.Contexts.{Equal, listed_context}
use Rattle.ap_theory.specs.StatementsOnConditions.{collected}
use Rattle.ap_theory.specs.Substitutions.{Agrees, Equates, Freshens, Substitution, applied}
use Rattle.ap_theory.specs.Variables.{IsIdempotent}

-- whatever agrees with the bindings and solves the problems makes the terms equal
abbrev pub Follows : List Binding → List Problem → NominalTerm → NominalTerm → Type 0
Follows bs ps t u = (ds : Conds) (s : Substitution) → Agrees (listed_context ds) s bs → Freshens (listed_context ds) s ps → Equal (listed_context ds) (applied s t) (applied s u)

-- and the bindings are carried out in the terms and in the problems
abbrev pub IsNeedless : NominalTerm → NominalTerm → List Problem → List Binding → Type 0
IsNeedless t u ps bs =
    Follows bs ps t u × IsIdempotent bs × (under bs t ≡ t) × (under bs u ≡ u) × (collected (reduce_all bs ps) ≡ collected (reduce_all [] ps))

-- the first equation is needless, and left out
abbrev pub LeavesOut : List Equation → List Problem → List Binding → Progress → Type 0
LeavesOut [] ps bs p = ⊥
LeavesOut ((t ≐ u) ∷ es) ps bs p = (p ≡ next (record { equations = es; problems = ps; bindings = bs })) × IsNeedless t u ps bs

abbrev pub GoesTo : Stage → Progress → Type 0
GoesTo s p = (step s ≡ p) ⊎ LeavesOut s.equations s.problems s.bindings p

-- the equations without the last so many
abbrev pub all_but_last : ℕ → List Equation → List Equation
all_but_last j [] = []
all_but_last j (e ∷ es) = if nat_lt (length es) j then [] else (e ∷ all_but_last j es)

-- two terms are equal once the equations before the last so many are solved
abbrev pub Awaits : Stage → ℕ → NominalTerm → NominalTerm → Type 0
Awaits r j t u =
    (ds : Conds) (s : Substitution) → Agrees (listed_context ds) s r.bindings → Freshens (listed_context ds) s r.problems → Equates (listed_context ds) s (all_but_last j r.equations)
    → Equal (listed_context ds) (applied s t) (applied s u)
