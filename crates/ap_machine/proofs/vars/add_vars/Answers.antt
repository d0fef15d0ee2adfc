use Rattle.std.proofs.Common.{◌<◌, length, arith}
use Rattle.ap_machine.proofs.SetLemmas.{same_next}
use Rattle.ap_machine.proofs.vars.add_vars.Goals as goal

pub adding-preserved : goal.adding-preserved
adding-preserved c =
    let h : c.adding.x-index < length c.args.more.now = omega arith in
    same_next c.adding.vars.items c.add_unless_near.new.vars.items c.args.more.now _ c.adding.x-index _ h c.in_ok-add_unless_near.ensures c.adding.invariant
