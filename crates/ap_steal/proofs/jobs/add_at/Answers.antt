use Rattle.std.proofs.Common.{rules, sym, subst}
use Rattle.ap_tools.specs.Hands.{IsFreshTools}
use Rattle.ap_tools.proofs.Fresh.{fresh_set}
use Rattle.ap_steal.proofs.jobs.add_at.Goals as goal

pub returns-clause-fresh : goal.returns-clause-fresh
returns-clause-fresh g c fresh =
    let old = c.index_mut.result.now in
    fresh_set 0 c.args.all.now.items c.args.at old c.add.new.self (search rules) fresh (λ m is. c.add.ensures m (subst (IsFreshTools m) (sym c.index_mut.ensures.value) is))
