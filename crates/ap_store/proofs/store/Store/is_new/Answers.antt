use Rattle.std.proofs.Common.{◌≤◌, arith}
use Rattle.std.proofs.lemmas.Bool.{leb-true}
use Rattle.ap_store.proofs.ReachLemmas.{new_is_absent}
use Rattle.ap_store.proofs.store.Store.is_new.Goals as goal

pub returns-then-self-x : goal.returns-then-self-x
returns-then-self-x c =
    let l : c.args.self.now.reach ≤ c.args.x.num = omega arith in
    λ h. new_is_absent c.args.self.now c.args.x c.args.c.now l (leb-true c.args.c.now.end c.args.x.num h)
