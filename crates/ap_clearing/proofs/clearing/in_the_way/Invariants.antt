-- Those so far, and those of the names that are left.
use Rattle.std.proofs.Common.{◌≡◌, ◌++◌, drop}
use Rattle.std.specs.Prelude.{filter}
use Rattle.ap_defs.specs.Permutations.{has_name}
use Rattle.ap_clearing.proofs.clearing.in_the_way.Given as goal

abbrev pub invariant-loop-place : goal.invariant-loop-place
invariant-loop-place l =
    l.found.items ++ filter (λ b. has_name b l.there.keys) (drop l.place l.names.known.keys) ≡ filter (λ b. has_name b l.there.keys) (drop l.names.free l.names.known.keys)
