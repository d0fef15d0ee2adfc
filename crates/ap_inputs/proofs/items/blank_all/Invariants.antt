use Rattle.std.proofs.Common.{◌≡◌, ◌++◌, map, take, drop}
use Rattle.ap_inputs.specs.Items.{blank_for}
use Rattle.ap_inputs.proofs.items.blank_all.Given as goal

abbrev pub invariant-loop-byte : goal.invariant-loop-byte
invariant-loop-byte l = l.bytes ≡ map blank_for (take l.byte-index l.initial.bytes) ++ drop l.byte-index l.initial.bytes
