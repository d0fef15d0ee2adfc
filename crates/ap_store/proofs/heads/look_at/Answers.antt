use Rattle.ap_store.specs.Founds.{bare_term}
use Rattle.ap_store.proofs.HeadLemmas.{look_bound, look_unbound}
use Rattle.ap_store.proofs.heads.look_at.Goals as goal

pub returns-in-None : goal.returns-in-None
returns-in-None c = look_unbound c.args.store.now c.args.x c.in-None.ensures

pub returns-in-Some : goal.returns-in-Some
returns-in-Some c =
    let (p, e) = c.in-Some.ensures in
    look_bound c.args.store.now c.args.x p (bare_term c.in-Some.b) c.look_in.result e c.look_in.ensures
