use Rattle.std.proofs.Common.{◌≡◌, ◌+◌, not, drop}
use Rattle.std.specs.List.{prefix_len}
use Rattle.ap_index.specs.Matching.{key_agrees}
use Rattle.ap_index.proofs.matching.next_in_rest.Given as goal

-- no key agrees so far
abbrev pub invariant-looking : goal.invariant-looking
invariant-looking l = l.i + prefix_len (λ k. not (key_agrees l.key k)) (drop l.i l.keys) ≡ l.from + prefix_len (λ k. not (key_agrees l.key k)) (drop l.from l.keys)
