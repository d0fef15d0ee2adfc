-- The type that a tree of a type stands for.
use Rattle.std.specs.Prelude.{List, map, Option, None, Some}
use Rattle.ap_defs.specs.Types.{NominalType, NominalSignature, unit, names, pair, list, abs}
use Rattle.ap_trees.specs.Types as trees
use Rattle.ap_trees.specs.Types.{Ty}
use Rattle.ap_scopes.specs.Declarations.{type_named}

-- the type that a word is found to stand for; a word that is not declared is a fault, and its type never counts
abbrev pub type_or_unit : Option NominalType → NominalType
type_or_unit (Some t) = t
type_or_unit None = unit

-- the abstraction over a name type; over anything else it is a fault, and its type never counts
abbrev pub abstraction_over : Option NominalType → NominalType → NominalType
abstraction_over (Some (names s)) t = abs s t
abstraction_over _ t = unit

abbrev pub resolved_type : NominalSignature → Ty → NominalType
resolved_type s trees.Unit = unit
resolved_type s (trees.Word w) = type_or_unit (type_named s w)
resolved_type s (trees.Pair t u) = pair (resolved_type s t) (resolved_type s u)
resolved_type s (trees.Array t) = list (resolved_type s t)
resolved_type s (trees.Abs w t) = abstraction_over (type_named s w) (resolved_type s t)

abbrev pub resolved_types : NominalSignature → List Ty → List NominalType
resolved_types s ts = map (resolved_type s) ts
