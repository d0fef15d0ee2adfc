-- What is written so far, and what is left, are all.
use Rattle.std.proofs.Common.{◌≡◌, ◌++◌, drop, map, flat_map}
use Rattle.ap_bundle.specs.declared.words.Head.TheVariants as head
use Rattle.ap_bundle.specs.Written.{head_line}
use Rattle.ap_bundle_write.proofs.write.write_entries.Given as goal

abbrev pub invariant-loop-words : goal.invariant-loop-words
invariant-loop-words l = l.out.items ++ flat_map (head_line head.T) (map (λ v. v.items) (drop l.words-index l.lines)) ≡ l.fn.out.items ++ flat_map (head_line head.T) (map (λ v. v.items) l.lines)
