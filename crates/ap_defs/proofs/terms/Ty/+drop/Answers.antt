use Rattle.std.proofs.Common.{subst, arith}
use Rattle.ap_defs.specs.Lefts.{LeftsBelow}
use Rattle.ap_defs.specs.declared.terms.Ty.TheViews.{size-Ty}
use Rattle.ap_defs.proofs.LeftLemmas.{lefts_below}
use Rattle.ap_defs.proofs.terms.Ty.+drop.Goals as goal

pub loop-self-init : goal.loop-self-init
loop-self-init t c = lefts_below (size-Ty c.args.self) c.args.self (omega arith)

pub loop-self-preserved-then-turn_owned : goal.loop-self-preserved-then-turn_owned
loop-self-preserved-then-turn_owned t c =
    let n = size-Ty c.args.self in
    let i = subst (LeftsBelow n) c.in-Pair.is c.loop-self.invariant in
    c.turn_owned.ensures.lefts n c.if-turn_owned.true i.0 i.1
