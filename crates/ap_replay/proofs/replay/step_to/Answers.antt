use Rattle.ap_replay.proofs.ReplayLemmas.{taken}
use Rattle.ap_replay.proofs.replay.step_to.Goals as goal

pub returns-then-offers-clause-taken : goal.returns-then-offers-clause-taken
returns-then-offers-clause-taken c =
    taken c.args.p.now c.args.descent c.width.result c.args.choice c.requires.query c.requires.of c.width.ensures.exact (c.offers.ensures.offered c.if-offers.true)
