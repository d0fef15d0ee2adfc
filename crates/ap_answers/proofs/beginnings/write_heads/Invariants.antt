-- What is written so far, and the beginnings that are left, are all of them.
use Rattle.std.proofs.Common.{◌≡◌, ◌++◌, drop}
use Rattle.ap_answers.specs.Spelled.{spelling_in}
use Rattle.ap_answers.specs.Swappings.{heads_text}
use Rattle.ap_answers.proofs.beginnings.write_heads.Given as goal

abbrev pub invariant-loop-swap : goal.invariant-loop-swap
invariant-loop-swap l = l.out.items ++ heads_text (spelling_in l.by).names (drop l.swap-index l.swaps) ≡ l.fn.out.items ++ heads_text (spelling_in l.by).names l.swaps
