use Rattle.std.proofs.Common.{◌≡◌, take, length}
use Rattle.ap_index.specs.Matching.{matching_keys}
use Rattle.ap_index.proofs.matching.match_rest.Given as goal

abbrev pub invariant-filling : goal.invariant-filling
invariant-filling l = (length l.out ≡ length l.keys) × (take l.i l.out ≡ matching_keys l.key (take l.i l.keys))
