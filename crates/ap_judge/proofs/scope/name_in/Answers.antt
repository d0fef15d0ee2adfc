use Rattle.std.proofs.Common.{◌-◌, sym, ◌∙◌, arith}
use Rattle.ap_judge.specs.Scopes.{nothing_put}
use Rattle.ap_judge.proofs.ScopeLemmas.{name_further, name_here}
use Rattle.ap_judge.proofs.scope.name_in.Goals as goal

pub returns-in-Some : goal.returns-in-Some
returns-in-Some c =
    name_here c.args.scope.now c.loop-i.i (c.loop-i.i - 1) c.index-scope-i.result nothing_put (omega arith) (omega arith) c.index-scope-i.is c.args.b c.in-Some.c (sym c.name_at.ensures ∙ c.in-Some.is)
    ∙ c.loop-i.invariant

pub loop-i-preserved : goal.loop-i-preserved
loop-i-preserved c =
    name_further c.args.scope.now c.loop-i.i (c.loop-i.i - 1) c.index-scope-i.result nothing_put (omega arith) (omega arith) c.index-scope-i.is c.args.b (sym c.name_at.ensures ∙ c.in_default.is)
    ∙ c.loop-i.invariant
