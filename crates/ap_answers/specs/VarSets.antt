-- Sets of variables in the order in which they came.
use Rattle.std.specs.Prelude.{ℕ, zero, suc, ◌-◌, List, [], ◌∷◌}
use Rattle.ap_defs.specs.declared.terms.Var.{Var}
use Rattle.ap_answers.specs.declared.var_sets.Run.{Run}
use Rattle.ap_answers.specs.declared.var_sets.VarSet.{VarSet}
use Rattle.ap_answers.specs.declared.var_sets.VarSet.TheVariants as sets

-- so many variables whose numbers follow one another
abbrev pub vars_from : ℕ → ℕ → List Var
vars_from first zero = []
vars_from first (suc n) = record { num = first } ∷ vars_from (suc first) n

abbrev pub vars_of_run : Run → List Var
vars_of_run r = vars_from r.first (r.end - r.first)

abbrev pub vars_of_set : VarSet → List Var
vars_of_set (sets.Run r) = vars_of_run r
vars_of_set (sets.Table t) = t.keys
