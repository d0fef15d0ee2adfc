use Rattle.std.proofs.Common.{length, take}
use Rattle.ap_trees.specs.Trees.{items_of_text}
use Rattle.ap_typecheck.specs.Typings.{IsTypingOf}
use Rattle.ap_whole.proofs.checking.check_items.Given as goal

abbrev pub invariant-loop-item : goal.invariant-loop-item
invariant-loop-item l = IsTypingOf (items_of_text (take (length l.yielded) l.fn.items.items)) l.typing
