use Rattle.std.proofs.Common.{sym, arith}
use Rattle.std.proofs.lemmas.Bool.Decides.{nat_tests}
use Rattle.ap_judge.specs.Scopes.{environment_of}
use Rattle.ap_sides.proofs.HeadLemmas.{lengths_differ}
use Rattle.ap_sides.proofs.heads.all_equal.Goals as goal

pub returns-then-left-right : goal.returns-then-left-right
returns-then-left-right c =
    sym (lengths_differ c.args.answer.now.conds (environment_of c.args.left.scope.standing.now) (environment_of c.args.right.scope.standing.now) c.args.left.terms.now c.args.right.terms.now
    (λ e. grind (arith, nat_tests, c.if-left-right.true, e)))
