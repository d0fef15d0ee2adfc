use Rattle.std.proofs.Common.{◌≡◌, ◌+◌, ◌-◌, ◌≤◌, not, drop, length}
use Rattle.std.specs.List.{prefix_len}
use Rattle.ap_index.specs.Matching.{key_agrees}
use Rattle.ap_index.proofs.matching.next_match.Given as goal

-- no key agrees so far
abbrev pub invariant-blocks-2 : goal.invariant-blocks-2
invariant-blocks-2 l = (l.at ≤ length l.keys) × (l.at + prefix_len (λ k. not (key_agrees l.key k)) (drop l.at l.keys) ≡ l.from + prefix_len (λ k. not (key_agrees l.key k)) (drop l.from l.keys))

abbrev pub decreases-blocks-2 : goal.decreases-blocks-2
decreases-blocks-2 l = length l.keys - l.at
