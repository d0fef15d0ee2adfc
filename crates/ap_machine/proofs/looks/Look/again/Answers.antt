use Rattle.std.proofs.Common.{length, refl}
use Rattle.ap_machine.specs.declared.looks.Look.{Look}
use Rattle.ap_machine.proofs.LookLemmas.{look_here}
use Rattle.ap_machine.proofs.looks.Look.again.Goals as goal

pub returns-clause-looked : goal.returns-clause-looked
returns-clause-looked c =
    let l : Look = record { place = c.mark.result.place; looked = length c.args.brought.now; unbound = c.in_ok-unbound.unbound } in
    look_here c.args.store.now c.args.brought.now l c.mark.ensures refl c.in_ok-unbound.ensures
