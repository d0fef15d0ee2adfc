use Rattle.std.proofs.Common.{subst, sym}
use Rattle.ap_rules.proofs.WorkLemmas.{if_ok}
use Rattle.ap_unify.proofs.SolvedLemmas.{known_at}
use Rattle.ap_unify.proofs.solved.is_at.Goals as goal
use Rattle.ap_unify.specs.Solved.{IsSolvedIn, suspensions_equation}

pub returns-then-place-known : goal.returns-then-place-known
returns-then-place-known c =
    if_ok c.are_these.result
    (λ same h. λ r k a. h r k (subst (λ e. IsSolvedIn r (suspensions_equation e)) (sym c.index-known-place.is) (known_at r c.args.known.now c.args.place _ c.if-place-known.true a))) c.are_these.ensures
