use Rattle.ap_derive.proofs.ClosingLemmas.{kept_on}
use Rattle.ap_derive.proofs.closing.go_to_bare.Goals as goal

pub returns-in-Some : goal.returns-in-Some
returns-in-Some c = kept_on c.args.store.now c.args.closing.now c.args.rounds.now.items c.args.swaps.items c.args.x c.in-Some.line c.requires.bare c.requires.closing c.in-Some.ensures
