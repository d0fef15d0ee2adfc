-- No LF stands before this place.
use Rattle.std.proofs.Common.{◌≡◌, ◌++◌, take, drop}
use Rattle.std.specs.Option.{option_map}
use Rattle.ap_bundle.specs.Readers.{first_line}
use Rattle.ap_bundle_read.proofs.place.first_line.Given as goal

abbrev pub invariant-loop-i : goal.invariant-loop-i
invariant-loop-i l = option_map (λ r. (take l.i l.bytes ++ r.0, r.1)) (first_line (drop l.i l.bytes)) ≡ first_line l.bytes
