use Rattle.std.proofs.Common.{◌≤◌, ◌^◌, arith}
use Rattle.ap_perm.proofs.ClosureLemmas.{waiting_below}
use Rattle.ap_perm.proofs.closures.Closure.open.Goals as goal

pub with_numbered-requires : goal.with_numbered-requires
with_numbered-requires c =
    let l : c.args.self.end ≤ 2 ^ 64 = omega arith in
    waiting_below (2 ^ 64) c.args.self.end c.args.self.base c.args.self.term.now c.in-Susp.q c.items.result.now c.in-Susp.x l c.args.self.below c.in-Susp.is c.items.ensures
