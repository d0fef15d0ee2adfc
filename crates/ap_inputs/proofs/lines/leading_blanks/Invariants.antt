use Rattle.std.proofs.Common.{◌≡◌, ◌+◌, drop}
use Rattle.ap_inputs.specs.Lines.{leading_blanks}
use Rattle.ap_inputs.proofs.lines.leading_blanks.Given as goal

abbrev pub invariant-loop-byte : goal.invariant-loop-byte
invariant-loop-byte l = record {
  passed : l.byte-index + leading_blanks (drop l.byte-index l.bytes) ≡ leading_blanks l.bytes;
  counted : l.count ≡ l.byte-index;
}
