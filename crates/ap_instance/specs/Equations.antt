-- Equations of variables with terms.
use Rattle.std.specs.Prelude.{List, [], ◌∷◌}
use Rattle.ap_defs.specs.declared.terms.Var.{Var}
use Rattle.ap_defs.specs.Goals.{NominalGoal, both, equal}
use Rattle.ap_defs.specs.Terms.{NominalTerm, susp}

-- each variable is equal to the term beside it, and then the goal
abbrev pub with_equations : List Var → List NominalTerm → NominalGoal → NominalGoal
with_equations (x ∷ xs) (t ∷ ts) g = both (equal (susp [] x) t) (with_equations xs ts g)
with_equations _ _ g = g
