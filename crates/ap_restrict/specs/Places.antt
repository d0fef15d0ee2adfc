-- The first variable that stands where a name belongs.
use Rattle.std.specs.Prelude.{List, [], ◌∷◌, ◌++◌, Option, Some, None}
use Rattle.ap_defs.specs.declared.terms.Var.{Var}
use Rattle.ap_defs.specs.RawTerms as raw
use Rattle.ap_defs.specs.RawTerms.{RawTerm}
use Rattle.ap_program.specs.NameRestriction.{variable_of, variable_binders, variable_places}
use Rattle.ap_restrict.specs.declared.places.NamePlace.{NamePlace}
use Rattle.ap_restrict.specs.declared.places.NamePlace.TheVariants as places

abbrev pub first_var : List Var → Option Var
first_var [] = None
first_var (x ∷ xs) = Some x

-- the variables that stand where names belong in a term, in the order of the text
abbrev pub misplaced : RawTerm → List Var
misplaced raw.unit = []
misplaced (raw.name a) = []
misplaced (raw.var x) = []
misplaced (raw.pair t u) = misplaced t ++ misplaced u
misplaced (raw.app f t) = misplaced t
misplaced (raw.abs i t) = variable_of i ++ misplaced t
misplaced (raw.swapped i j t) = variable_of i ++ variable_of j ++ misplaced t

-- the variables at such places of a term
abbrev pub variables_at : NamePlace → RawTerm → List Var
variables_at places.Binder t = variable_binders t
variables_at places.Swap t = variable_places t
variables_at places.Any t = misplaced t
