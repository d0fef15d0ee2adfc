-- None before this one is spelled so.
use Rattle.std.proofs.Common.{◌≡◌, drop}
use Rattle.std.specs.Prelude.{find}
use Rattle.std.specs.Str.{bytes_eq}
use Rattle.ap_bundle.specs.Words.{node_text, node_words}
use Rattle.ap_bundle_read.proofs.words.node_word.Given as goal

abbrev pub invariant-loop-word : goal.invariant-loop-word
invariant-loop-word l = find (λ k. bytes_eq (node_text k) l.text) (drop l.word-index node_words) ≡ find (λ k. bytes_eq (node_text k) l.text) node_words
