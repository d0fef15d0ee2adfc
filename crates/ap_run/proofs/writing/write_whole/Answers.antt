use Rattle.std.proofs.Common.{arith, rules}
use Rattle.ap_run.proofs.Wrote.{wrote_more}
use Rattle.ap_run.proofs.writing.write_whole.Goals as goal

pub loop-at-preserved : goal.loop-at-preserved
loop-at-preserved g c = record {
  in_range = omega (arith, c.in_ok-at.ensures.bound.1);
  faults = search rules;
  held = wrote_more _ _ _ _ _ _ c.loop-at.invariant.held c.in_ok-at.ensures.bytes;
}
