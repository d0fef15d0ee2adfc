use Rattle.std.proofs.Common.{◌≡◌, ℕ, ◌+◌, ◌≤◌, List, vec_len}
use Rattle.std.specs.HashSet.{spare}
use Rattle.ap_paths.specs.Weights.{weigh}
use Rattle.ap_book.specs.Kept.{paths_of}
use Rattle.ap_book.proofs.opened.add_all.Given as goal

abbrev pub invariant-loop-path : goal.invariant-loop-path
invariant-loop-path l = ((h : List ℕ → ℕ) → weigh h (paths_of l.opened.keys) + weigh h (paths_of l.paths.items) ≡ weigh h (paths_of l.initial.opened.keys) + weigh h (paths_of l.initial.paths.items))
    × (vec_len l.paths ≤ spare l.opened)

abbrev pub decreases-loop-path : goal.decreases-loop-path
decreases-loop-path l = vec_len l.paths
