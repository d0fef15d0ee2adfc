use Rattle.std.proofs.Common.{[], subst}
use Rattle.ap_defs.specs.Substitution.{under}
use Rattle.ap_defs.specs.Terms.{susp}
use Rattle.ap_store.specs.Heads.{IsHeadLook}
use Rattle.ap_store.specs.Views.{bindings_of}
use Rattle.ap_store.proofs.HeadLemmas.{head_same}
use Rattle.ap_store.proofs.heads.head_at.Goals as goal

pub returns-in-Ends : goal.returns-in-Ends
returns-in-Ends c = subst (IsHeadLook c.args.store.now c.args.x) c.in-Ends.is c.look_at.ensures

pub returns-in-Further : goal.returns-in-Further
returns-in-Further c =
    let s = c.args.store.now in
    let bs = bindings_of s in
    let h = subst (IsHeadLook s c.args.x) c.in-Further.is c.look_at.ensures in
    head_same bs (under bs (susp [] c.args.x)) (under bs (susp [] c.in-Further.y)) c.head_behind.result h.0.1 c.head_behind.ensures
