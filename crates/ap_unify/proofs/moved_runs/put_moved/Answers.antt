use Rattle.ap_fresh.proofs.StepLemmas.{on_ok}
use Rattle.ap_unify.proofs.PartLemmas.{put_below, put_front}
use Rattle.ap_unify.proofs.moved_runs.put_moved.Goals as goal
use Rattle.ap_unify.specs.Moved.{moved_equation}

pub returns-in_ok-e-in-Some-clause-equations : goal.returns-in_ok-e-in-Some-clause-equations
returns-in_ok-e-in-Some-clause-equations c =
    rw c.in-Some.is
    (on_ok c.put_equation.result
    (put_front c.args.work.now.equations.items c.put_equation.new.work.equations.items c.in_ok-e-in-Some.e (moved_equation c.args.sides.now c.in-Some.pair) c.in_ok-e-in-Some.ensures.same)
    c.put_equation.ensures.equations)

pub returns-in_ok-e-in-Some-clause-below : goal.returns-in_ok-e-in-Some-clause-below
returns-in_ok-e-in-Some-clause-below c =
    rw c.in-Some.is
    (on_ok c.put_equation.result
    (λ h n b k. put_below c.args.work.now.equations.items c.put_equation.new.work.equations.items c.in_ok-e-in-Some.e (moved_equation c.args.sides.now c.in-Some.pair) c.in_ok-e-in-Some.ensures.same h n (c.in_ok-e-in-Some.ensures.below n b) k)
    c.put_equation.ensures.equations)
