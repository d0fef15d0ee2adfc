use Rattle.std.proofs.Common.{[], ◌∷◌, ◌++◌, refl}
use Rattle.ap_machine.specs.Views.{state_in}
use Rattle.ap_machine.proofs.ChainLemmas.{one_taken}
use Rattle.ap_machine.proofs.chains.all_taken.Goals as goal

pub taking-preserved : goal.taking-preserved
taking-preserved c =
    one_taken (state_in c.args.store.now) c.taking.yielded (c.taking.yielded ++ c.in-Some.slot ∷ []) c.in-Some.slot c.taking.terms.items c.push.new.self.items c.in_ok-taken.field-0
    refl c.in_ok-push.ensures.items c.taking.invariant c.in_ok-taken.ensures
