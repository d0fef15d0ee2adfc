-- The variables that stand in terms themselves.
use Rattle.std.specs.Prelude.{Bool, false, ◌||◌, List, [], ◌∷◌}
use Rattle.ap_defs.specs.Substitution.{occurs}
use Rattle.ap_defs.specs.declared.terms.Var.{Var}
use Rattle.ap_store.specs.Founds.{bare_term}
use Rattle.ap_store.specs.declared.bare.Bare.{Bare}

-- a variable stands in one of the terms
abbrev pub occurs_own : Var → List Bare → Bool
occurs_own y [] = false
occurs_own y (b ∷ bs) = occurs y (bare_term b) || occurs_own y bs
