use Rattle.ap_steal.proofs.ReachLemmas.{narrow_is}
use Rattle.ap_steal.proofs.reach.of_narrow.Goals as goal

pub returns : goal.returns
returns c =
    narrow_is c.args.narrow c.args.way c.min.result c.max-again.result c.min-2.result c.min.ensures c.max-again.ensures c.min-2.ensures
