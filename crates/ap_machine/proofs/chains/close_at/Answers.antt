use Rattle.std.proofs.Common.{ap}
use Rattle.std.proofs.Math.Seq.{map-set_same}
use Rattle.ap_machine.specs.declared.chains.ToClose.{ToClose}
use Rattle.ap_machine.proofs.chains.close_at.Goals as goal

pub returns-clause-vars : goal.returns-clause-vars
returns-clause-vars c = map-set_same (λ (e : ToClose). e.var) c.args.slots.now.items c.args.place _ c.index-2.result.now (ap (λ (e : ToClose). e.var) c.index-2.ensures)
