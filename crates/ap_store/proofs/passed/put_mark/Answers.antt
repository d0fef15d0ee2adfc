use Rattle.std.proofs.Common.{inl}
use Rattle.ap_store.proofs.PassedLemmas.{marked_set}
use Rattle.ap_store.proofs.passed.put_mark.Goals as goal

pub returns-then-num-len : goal.returns-then-num-len
returns-then-num-len c = λ i h. marked_set c.args.marks.now.items c.args.num i h
