-- What is written so far, and the rules that are left, are all; no more are open than were seen.
use Rattle.std.proofs.Common.{◌≡◌, ◌≤◌, ◌+◌, ◌++◌, length}
use Rattle.ap_steps.specs.Latex.{tree}
use Rattle.ap_steps.proofs.latex.write_tree.Given as goal

abbrev pub invariant-steps : goal.invariant-steps
invariant-steps l = (l.out.items ++ tree l.levels l.rest ≡ l.fn.out.items ++ tree 0 l.fn.steps) × (l.levels + length l.rest ≤ length l.fn.steps)

abbrev pub decreases-steps : goal.decreases-steps
decreases-steps l = length l.rest
