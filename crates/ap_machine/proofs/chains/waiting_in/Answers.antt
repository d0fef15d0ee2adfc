use Rattle.std.proofs.Common.{◌≤◌, ◌^◌, arith}
use Rattle.ap_perm.proofs.ClosureLemmas.{waiting_below}
use Rattle.ap_machine.proofs.chains.waiting_in.Goals as goal

pub with_numbered-requires : goal.with_numbered-requires
with_numbered-requires c =
    let bound = c.args.bound in
    let l : bound.end ≤ 2 ^ 64 = omega arith in
    waiting_below (2 ^ 64) bound.end bound.base bound.term.now c.in-Susp.own c.items.result.now c.in-Susp.y l bound.below c.in-Susp.is c.items.ensures
