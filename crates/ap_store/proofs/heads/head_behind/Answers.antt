use Rattle.std.proofs.Common.{[], subst}
use Rattle.ap_defs.specs.Substitution.{under}
use Rattle.ap_defs.specs.Terms.{susp}
use Rattle.ap_store.specs.Heads.{IsHeadLook}
use Rattle.ap_store.specs.Views.{bindings_of}
use Rattle.ap_store.proofs.HeadLemmas.{alike_trans, head_same}
use Rattle.ap_store.proofs.heads.head_behind.Goals as goal

pub following-init : goal.following-init
following-init c = c.last_alike-y.ensures

pub following-preserved : goal.following-preserved
following-preserved c =
    let s = c.args.store.now in
    let bs = bindings_of s in
    let h = subst (IsHeadLook s c.following.y) c.in-Further.is c.look_at.ensures in
    alike_trans (under bs (susp [] c.args.x)) (under bs (susp [] c.following.y)) (under bs (susp [] c.in-Further.further)) c.following.invariant h.0

pub following-smaller : goal.following-smaller
following-smaller c =
    let s = c.args.store.now in
    let h = subst (IsHeadLook s c.following.y) c.in-Further.is c.look_at.ensures in
    h.1

pub returns-in-Ends : goal.returns-in-Ends
returns-in-Ends c =
    let s = c.args.store.now in
    let bs = bindings_of s in
    let h = subst (IsHeadLook s c.following.y) c.in-Ends.is c.look_at.ensures in
    head_same bs (under bs (susp [] c.args.x)) (under bs (susp [] c.following.y)) c.in-Ends.head c.following.invariant.1 h
