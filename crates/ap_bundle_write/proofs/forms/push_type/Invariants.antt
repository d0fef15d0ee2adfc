-- What is written so far, and the types that are left, are all.
use Rattle.std.proofs.Common.{◌≡◌, ◌++◌, length}
use Rattle.ap_defs.specs.Types.{type_of}
use Rattle.ap_bundle.specs.Forms.{type_words}
use Rattle.ap_bundle_write.proofs.Stacks.{later, seen}
use Rattle.ap_bundle_write.proofs.forms.push_type.Given as goal

abbrev pub invariant-loop-next : goal.invariant-loop-next
invariant-loop-next l = l.words.items ++ later type_words (seen type_of l.pending.items) ≡ l.fn.words.items ++ type_words (type_of l.ty)

abbrev pub decreases-loop-next : goal.decreases-loop-next
decreases-loop-next l = length (later type_words (seen type_of l.pending.items))
