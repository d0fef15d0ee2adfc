-- The sorts so far, and those of the names that are left.
use Rattle.std.proofs.Common.{◌≡◌, ◌++◌, drop, map}
use Rattle.ap_instance.specs.Settled.{sort_of}
use Rattle.ap_instance.proofs.names.Names.sorts.Given as goal

abbrev pub invariant-loop-place : goal.invariant-loop-place
invariant-loop-place l = l.sorts.items ++ map sort_of (drop l.place l.self.known.keys) ≡ map sort_of (drop l.self.free l.self.known.keys)
