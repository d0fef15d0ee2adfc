-- What is written so far, and the terms that are left, are all.
use Rattle.std.proofs.Common.{◌≡◌, ◌++◌, length}
use Rattle.ap_defs.specs.Terms.{term_of}
use Rattle.ap_bundle.specs.Forms.{term_words}
use Rattle.ap_bundle_write.proofs.Stacks.{later, seen}
use Rattle.ap_bundle_write.proofs.forms.push_term.Given as goal

abbrev pub invariant-loop-next : goal.invariant-loop-next
invariant-loop-next l = l.words.items ++ later term_words (seen term_of l.pending.items) ≡ l.fn.words.items ++ term_words (term_of l.term)

abbrev pub decreases-loop-next : goal.decreases-loop-next
decreases-loop-next l = length (later term_words (seen term_of l.pending.items))
