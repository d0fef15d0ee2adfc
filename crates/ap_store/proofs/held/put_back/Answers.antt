use Rattle.std.proofs.Common.{refl}
use Rattle.ap_store.proofs.HeldLemmas.{changed_at, length_set}
use Rattle.ap_store.proofs.held.put_back.Goals as goal

pub returns-clause-held : goal.returns-clause-held
returns-clause-held c = changed_at (λ cs. c.args.conds.items) c.args.held.now.items c.args.place c.args.conds c.index_mut.result.now c.requires c.index_mut.ensures.value refl

pub returns-clause-length : goal.returns-clause-length
returns-clause-length c = length_set c.args.held.now.items c.args.place c.args.conds
