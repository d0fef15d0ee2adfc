-- The words so far, and those of the texts that are left, are all.
use Rattle.std.proofs.Common.{◌≡◌, ◌++◌, drop, map}
use Rattle.std.specs.Option.{option_map}
use Rattle.ap_bundle.specs.Words.{words_spelled}
use Rattle.ap_bundle_read.proofs.words.words_of.Given as goal

abbrev pub invariant-loop-text : goal.invariant-loop-text
invariant-loop-text l = option_map (λ ws. l.words.items ++ ws) (words_spelled (map (λ x. x.now) (drop l.text-index l.texts))) ≡ words_spelled (map (λ x. x.now) l.texts)
