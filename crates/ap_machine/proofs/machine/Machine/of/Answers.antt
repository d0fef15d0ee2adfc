use Rattle.ap_store.specs.Views.{versions}
use Rattle.ap_machine.proofs.LookLemmas.{look_none, some_versions}
use Rattle.ap_machine.proofs.machine.Machine.of.Goals as goal

pub invariant_of-result-clause-seen : goal.invariant_of-result-clause-seen
invariant_of-result-clause-seen c =
    look_none (versions c.args.store) _ c.new-4.result (some_versions c.args.store) c.new-4.ensures.place c.new-4.ensures.looked c.new-4.ensures.unbound
