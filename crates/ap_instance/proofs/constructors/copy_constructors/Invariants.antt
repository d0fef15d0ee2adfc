-- The copies so far, and the constructors that are left, are all.
use Rattle.std.proofs.Common.{◌≡◌, ◌++◌, drop, map}
use Rattle.ap_defs.specs.Types.{constructor_of}
use Rattle.ap_instance.proofs.constructors.copy_constructors.Given as goal

abbrev pub invariant-loop-constructor : goal.invariant-loop-constructor
invariant-loop-constructor l = map constructor_of l.copied.items ++ map constructor_of (drop l.constructor-index l.constructors) ≡ map constructor_of l.constructors
