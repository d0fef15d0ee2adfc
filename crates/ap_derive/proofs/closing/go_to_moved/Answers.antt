use Rattle.ap_defs.specs.Terms.{susp}
use Rattle.ap_derive.proofs.ClosingLemmas.{moved_on}
use Rattle.ap_derive.proofs.closing.go_to_moved.Goals as goal

pub returns : goal.returns
returns c =
    moved_on c.args.store.now c.args.closing.now c.go_on.new.closing c.args.rounds.now.items (susp c.args.swaps.items c.args.x) c.in_ok-part.part c.in_ok-part.ensures
