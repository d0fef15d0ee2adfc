-- The identifiers of a query that are free: names by their sorts, and variables.
use Rattle.std.specs.Prelude.{ℕ, Bool, true, false, Option, Some, None}
use Rattle.ap_defs.specs.Types as types
use Rattle.ap_defs.specs.Types.{NominalKind, NominalLocal}

abbrev pub sort_unless : Bool → NominalKind → Option ℕ
sort_unless false (types.name s) = Some s
sort_unless _ _ = None

-- the sort of a free name
abbrev pub free_sort : NominalLocal → Option ℕ
free_sort l = sort_unless l.bound l.kind

abbrev pub var_when : Bool → NominalKind → Bool
var_when false (types.var t) = true
var_when _ _ = false

abbrev pub is_free_var : NominalLocal → Bool
is_free_var l = var_when l.bound l.kind
