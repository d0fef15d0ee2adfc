use Rattle.ap_judge.proofs.LatestLemmas.{pushed}
use Rattle.ap_judge.proofs.latest.Latest.push.Goals as goal

pub returns : goal.returns
returns c = λ keys e is.
    pushed keys c.args.key c.args.self.now (record { places = c.insert.new.self; before = c.push.new.self }) c.args.place c.in_ok-before.before e is c.in_ok-before.ensures.old c.in_ok-push.ensures.items
    c.in_ok-before.ensures.updates.0
