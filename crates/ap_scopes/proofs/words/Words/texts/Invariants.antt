use Rattle.std.proofs.Common.{◌≡◌, map, take}
use Rattle.ap_scopes.proofs.words.Words.texts.Given as goal

abbrev pub invariant-loop-word : goal.invariant-loop-word
invariant-loop-word l = l.texts.items ≡ map (λ k. k.now) (take l.word-index l.self.words.keys)
