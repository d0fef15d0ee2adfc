use Rattle.std.proofs.Common.{◌≡◌, ◌++◌, [], replicate}
use Rattle.ap_defs.specs.Answers.{cut, outs_of}
use Rattle.ap_paths.proofs.runs.push_cuts.Given as goal

abbrev pub invariant-adding : goal.invariant-adding
invariant-adding l = outs_of l.outs.items ++ replicate l.left (cut []) ≡ outs_of l.fn.outs.items ++ replicate l.count (cut [])

abbrev pub decreases-adding : goal.decreases-adding
decreases-adding l = l.left
