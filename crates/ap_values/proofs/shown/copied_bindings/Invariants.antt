-- The copies so far, and the bindings that are left, are all.
use Rattle.std.proofs.Common.{◌≡◌, ◌++◌, map, drop}
use Rattle.ap_answers.specs.Bindings.{binds_of}
use Rattle.ap_answers.specs.Queries.{nominal_bind}
use Rattle.ap_values.proofs.shown.copied_bindings.Given as goal

abbrev pub invariant-loop-bind : goal.invariant-loop-bind
invariant-loop-bind l = map nominal_bind l.copies.items ++ binds_of (drop l.bind-index l.binds) ≡ binds_of l.binds
