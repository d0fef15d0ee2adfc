use Rattle.std.proofs.Common.{ap}
use Rattle.ap_store.specs.Slots.{slot_kind}
use Rattle.ap_store.proofs.ReachLemmas.{kept_set}
use Rattle.ap_store.proofs.TableLemmas.{bound_in_set, kinds_set, length_set, ground_in_set}
use Rattle.ap_store.proofs.tables.put_value.Goals as goal

pub returns-clause-kinds : goal.returns-clause-kinds
returns-clause-kinds c = kinds_set c.args.table.now.items c.args.place _ c.index_mut.result.now c.requires (ap slot_kind c.index_mut.ensures.value)

pub returns-clause-bound : goal.returns-clause-bound
returns-clause-bound c = λ i. bound_in_set c.args.table.now.items c.args.place i _ c.requires

pub returns-clause-length : goal.returns-clause-length
returns-clause-length c = length_set c.args.table.now.items c.args.place _

pub returns-clause-below : goal.returns-clause-below
returns-clause-below c = λ n h k. kept_set n c.args.table.now.items c.args.place _ h k

pub returns-clause-marks : goal.returns-clause-marks
returns-clause-marks c = λ i. ground_in_set c.args.table.now.items c.args.place i _ c.requires
