-- The copies so far, and the types that are left, are all.
use Rattle.std.proofs.Common.{◌≡◌, ◌++◌, drop, map}
use Rattle.ap_defs.specs.Types.{type_of}
use Rattle.ap_instance.proofs.constructors.copy_types.Given as goal

abbrev pub invariant-loop-ty : goal.invariant-loop-ty
invariant-loop-ty l = map type_of l.copied.items ++ map type_of (drop l.ty-index l.types) ≡ map type_of l.types
