-- Equations and problems that are kept as they were met, and stand for what they are under the bindings.
use Rattle.std.specs.Prelude.{List, [], ◌∷◌, map}
use Rattle.ap_defs.specs.Substitution.{Binding, Equation, Problem, under, ◌#◌, ◌≐◌}
use Rattle.ap_defs.specs.Terms.{NominalTerm}
use Rattle.ap_defs.specs.Unification.{Stage}

abbrev pub equation_under : List Binding → Equation → Equation
equation_under s (t ≐ u) = under s t ≐ under s u

abbrev pub problem_under : List Binding → Problem → Problem
problem_under s (a # t) = a # under s t

abbrev pub stage_under : List Binding → List Equation → List Problem → Stage
stage_under s es ps = record { equations = map (equation_under s) es; problems = map (problem_under s) ps; bindings = s }

-- an equation for each place that both lists have
abbrev pub paired : List NominalTerm → List NominalTerm → List Equation
paired (t ∷ ts) (u ∷ us) = (t ≐ u) ∷ paired ts us
paired _ _ = []
