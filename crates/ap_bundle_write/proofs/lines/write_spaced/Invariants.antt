-- What is written so far, and the words that are left, are all.
use Rattle.std.proofs.Common.{◌≡◌, ◌++◌, drop}
use Rattle.ap_bundle_write.specs.Spaces.{spaced}
use Rattle.ap_bundle_write.proofs.lines.write_spaced.Given as goal

abbrev pub invariant-loop-word : goal.invariant-loop-word
invariant-loop-word l = l.out.items ++ spaced (drop l.word-index l.words) ≡ l.fn.out.items ++ spaced l.words
