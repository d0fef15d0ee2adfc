-- None before this one is spelled so.
use Rattle.std.proofs.Common.{◌≡◌, drop}
use Rattle.std.specs.Prelude.{find}
use Rattle.std.specs.Str.{bytes_eq}
use Rattle.ap_bundle.specs.Words.{head_text, heads}
use Rattle.ap_bundle_read.proofs.words.head.Given as goal

abbrev pub invariant-loop-head : goal.invariant-loop-head
invariant-loop-head l = find (λ k. bytes_eq (head_text k) l.text) (drop l.head-index heads) ≡ find (λ k. bytes_eq (head_text k) l.text) heads
