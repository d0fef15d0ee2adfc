-- As many are left as are still to come.
use Rattle.std.proofs.Common.{◌≡◌}
use Rattle.std.specs.Prelude.{◌==◌}
use Rattle.ap_trees.specs.Trees.{terms_of}
use Rattle.ap_scopes.specs.Flaws.{term_count}
use Rattle.ap_scopes.proofs.flaws.are_as_many.Given as goal

abbrev pub invariant-loop-rest : goal.invariant-loop-rest
invariant-loop-rest l = (l.left == term_count (terms_of l.rest)) ≡ (l.fn.declared == term_count (terms_of l.fn.args))

abbrev pub decreases-loop-rest : goal.decreases-loop-rest
decreases-loop-rest l = term_count (terms_of l.rest)
