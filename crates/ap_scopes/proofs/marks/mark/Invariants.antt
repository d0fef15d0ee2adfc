use Rattle.std.proofs.Common.{◌≡◌, ◌<◌, drop}
use Rattle.ap_scopes.specs.Marks.{mark_after, word_mark}
use Rattle.ap_scopes.proofs.marks.mark.Given as goal

abbrev pub invariant-loop-byte : goal.invariant-loop-byte
invariant-loop-byte l = record {
  all : mark_after l.mark (drop l.byte-index l.bytes) ≡ word_mark l.bytes;
  below : l.mark < 1024;
}
