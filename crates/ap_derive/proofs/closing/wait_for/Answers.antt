use Rattle.ap_derive.proofs.ClosingLemmas.{waits_on}
use Rattle.ap_derive.proofs.closing.wait_for.Goals as goal

pub returns : goal.returns
returns c =
    waits_on c.args.store.now c.args.closing.now c.go_on.new.closing c.args.rounds.now.items c.push.new.self.items c.args.swaps.items c.args.x c.in_ok-part.part c.requires
    c.in_ok-push.ensures.items c.in_ok-part.ensures
