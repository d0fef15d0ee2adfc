use Rattle.std.proofs.Common.{◌-◌, sym, arith}
use Rattle.std.specs.BTreeSet.{contains}
use Rattle.ap_judge.specs.Indexes.{sought_name, sought_name_cmp}
use Rattle.ap_judge.proofs.IndexLemmas.{different_more, equal_here, name_more}
use Rattle.ap_checker.proofs.nodes.all_differ.Goals as goal

pub returns-then-not-branch : goal.returns-then-not-branch
returns-then-not-branch c =
    sym (equal_here c.args.names.now c.loop-i.i (c.loop-i.i - 1) _ (omega arith) (omega arith) c.in_ok-insert.field-0 _ c.in_ok-insert.ensures.added (c.loop-i.invariant.seen _) c.if-not-branch.true)

pub loop-i-preserved : goal.loop-i-preserved
loop-i-preserved c = record {
  different =
      different_more c.args.names.now c.loop-i.i (c.loop-i.i - 1) _ (omega arith) (omega arith) c.in_ok-insert.field-0 _ c.in_ok-insert.ensures.added (c.loop-i.invariant.seen _)
      c.if-not-branch.false c.loop-i.invariant.different;
  seen = λ b.
      name_more c.args.names.now c.loop-i.i (c.loop-i.i - 1) _ (omega arith) (omega arith) b (contains sought_name_cmp c.loop-i.seen) (contains sought_name_cmp c.insert.new.self)
      (c.in_ok-insert.ensures.updates.0 (sought_name b)) (c.loop-i.invariant.seen b);
}
