use Rattle.std.proofs.Common.{◌<◌}
use Rattle.ap_typecheck.proofs.spellings.place_of.Given as goal

abbrev pub invariant-loop-byte : goal.invariant-loop-byte
invariant-loop-byte l = l.place < 256
