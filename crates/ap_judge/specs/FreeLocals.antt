-- The types of free variables.
use Rattle.std.specs.Prelude.{Bool, false, Option, Some, None}
use Rattle.ap_defs.specs.Types as types
use Rattle.ap_defs.specs.Types.{NominalKind, NominalLocal, NominalType}

abbrev pub free_type_unless : Bool → NominalKind → Option NominalType
free_type_unless false (types.var t) = Some t
free_type_unless _ _ = None

-- the type of a free variable
abbrev pub free_type : NominalLocal → Option NominalType
free_type l = free_type_unless l.bound l.kind
