-- The free variables among identifiers of a query.
use Rattle.std.specs.Prelude.{◌≡◌, List}
use Rattle.std.proofs.Props.{props}
use Rattle.ap_defs.specs.Renaming.{local_vars}
use Rattle.ap_defs.specs.Types.{locals_of}
use Rattle.ap_defs.specs.declared.goals.Local.{Local}
use Rattle.ap_defs.specs.declared.terms.Var.{Var}

abbrev pub AreFreeVars : List Local → List Var → Type 0
AreFreeVars locals xs = xs ≡ local_vars 0 (locals_of locals)

pub free_prop : (locals : List Local) (xs : List Var) → IsProp (AreFreeVars locals xs)
free_prop locals xs = hlevel props
