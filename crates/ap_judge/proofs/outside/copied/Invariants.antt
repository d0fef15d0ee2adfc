-- What is left, within what stands round it, is all.
use Rattle.std.proofs.Common.{◌≡◌, ◌+◌}
use Rattle.ap_defs.specs.Unification.{size}
use Rattle.ap_judge.specs.Outsides.{left_outside, outside_of}
use Rattle.ap_judge.specs.Closures.{scoped_term}
use Rattle.ap_judge.proofs.outside.copied.Given as goal

abbrev pub invariant-parts : goal.invariant-parts
invariant-parts l = outside_of l.outside (scoped_term l.rest) ≡ scoped_term l.fn.t

abbrev pub decreases-parts : goal.decreases-parts
decreases-parts l = size (scoped_term l.rest) + left_outside l.outside
