use Rattle.std.proofs.Common.{[], refl}
use Rattle.ap_defs.specs.Substitution.{under}
use Rattle.ap_defs.specs.Terms.{susp}
use Rattle.ap_store.specs.Views.{bindings_of}
use Rattle.ap_store.proofs.HeadLemmas.{alike_trans}
use Rattle.ap_store.proofs.heads.last_alike.Goals as goal

pub following-init : goal.following-init
following-init c = ((λ y. refl), (refl, λ y. refl))

pub following-preserved : goal.following-preserved
following-preserved c =
    let bs = bindings_of c.args.store.now in
    alike_trans (under bs (susp [] c.args.x)) (under bs (susp [] c.following.y)) (under bs (susp [] c.in-Some.further)) c.following.invariant (c.next_alike.ensures c.in-Some.further c.in-Some.is)
