use Rattle.std.proofs.Common.{arith}
use Rattle.ap_kinds.proofs.SortLemmas.{keep_next, keep_none}
use Rattle.ap_kinds.proofs.sorts.has_names.Goals as goal

pub loop-kind-preserved : goal.loop-kind-preserved
loop-kind-preserved c =
    keep_next c.args.kinds.now c.loop-kind.kind-index c.kind-item.result (omega arith) c.kind-item.is (c.is_of_name.ensures c.if-is_of_name.false) c.loop-kind.invariant

pub returns : goal.returns
returns c = λ e. c.loop-kind.invariant (keep_none c.args.kinds.now c.loop-kind.kind-index (omega arith))
