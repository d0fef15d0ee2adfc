-- What is written so far, and what is left, are all.
use Rattle.std.proofs.Common.{◌≡◌, ◌++◌, drop, flat_map}
use Rattle.ap_bundle.specs.Written.{name_line}
use Rattle.ap_bundle_write.proofs.derivations.write_names.Given as goal

abbrev pub invariant-loop-name : goal.invariant-loop-name
invariant-loop-name l = l.out.items ++ flat_map name_line (drop l.name-index l.names) ≡ l.fn.out.items ++ flat_map name_line l.names
