use Rattle.std.proofs.Common.{◌-◌, arith}
use Rattle.std.specs.BTreeSet.{contains}
use Rattle.ap_judge.specs.Indexes.{sought, sought_cmp}
use Rattle.ap_judge.proofs.IndexLemmas.{cond_more}
use Rattle.ap_judge.proofs.index.conds_of.Goals as goal

pub loop-i-preserved : goal.loop-i-preserved
loop-i-preserved c = λ q.
    cond_more c.args.conds.now c.loop-i.i (c.loop-i.i - 1) _ (omega arith) (omega arith) q (contains sought_cmp c.loop-i.sought) (contains sought_cmp c.insert.new.self)
    (rw c.sought_key.ensures at (c.in_ok-insert.ensures.updates.0 (sought q))) (c.loop-i.invariant q)
