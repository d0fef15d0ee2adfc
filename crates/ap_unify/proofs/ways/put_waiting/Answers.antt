use Rattle.std.proofs.Common.{ap₂, subst, sym}
use Rattle.ap_defs.specs.Renaming.{IsBelow}
use Rattle.ap_defs.specs.Substitution.{◌≐◌}
use Rattle.ap_fresh.proofs.StepLemmas.{on_ok}
use Rattle.ap_rules.specs.declared.pairs.ClosurePair.{ClosurePair}
use Rattle.ap_unify.proofs.PartLemmas.{put_below, put_front}
use Rattle.ap_unify.proofs.ways.put_waiting.Goals as goal
use Rattle.ap_unify.specs.Parts.{parts_equation}

pub returns-in-Some-clause-equations : goal.returns-in-Some-clause-equations
returns-in-Some-clause-equations c =
    let e : ClosurePair = record { left = c.closure-left.result; right = c.closure-right.result } in
    rw c.in-Some.is
    (on_ok c.put_equation.result
    (put_front c.args.work.now.equations.items c.put_equation.new.work.equations.items e (parts_equation c.in-Some.pair) (ap₂ ◌≐◌ c.closure-left.ensures c.closure-right.ensures))
    c.put_equation.ensures.equations)

pub returns-in-Some-clause-below : goal.returns-in-Some-clause-below
returns-in-Some-clause-below c =
    let e : ClosurePair = record { left = c.closure-left.result; right = c.closure-right.result } in
    rw c.in-Some.is
    (on_ok c.put_equation.result
    (λ h n b k. put_below c.args.work.now.equations.items c.put_equation.new.work.equations.items e (parts_equation c.in-Some.pair) (ap₂ ◌≐◌ c.closure-left.ensures c.closure-right.ensures)
    h n (subst (IsBelow n) (sym c.closure-left.ensures) b.0, subst (IsBelow n) (sym c.closure-right.ensures) b.1) k)
    c.put_equation.ensures.equations)
