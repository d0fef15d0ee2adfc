use Rattle.std.proofs.Common.{◌≡◌, drop, map}
use Rattle.ap_defs.specs.Terms.{term_of}
use Rattle.ap_checks.specs.Checks.{equal_each}
use Rattle.ap_checks.specs.OpenEnvironments.{put_in}
use Rattle.ap_judge.specs.Closures.{scoped_terms}
use Rattle.ap_judge.specs.Scopes.{environment_of}
use Rattle.ap_sides.proofs.heads.all_equal.Given as goal

abbrev pub invariant-loop-i : goal.invariant-loop-i
invariant-loop-i l =
    equal_each l.answer.conds (map (put_in (environment_of l.left.scope.standing.now)) (map term_of (drop l.i l.left.terms.now))) (map (put_in (environment_of l.right.scope.standing.now)) (map term_of (drop l.i l.right.terms.now)))
    ≡ equal_each l.answer.conds (scoped_terms l.left) (scoped_terms l.right)
