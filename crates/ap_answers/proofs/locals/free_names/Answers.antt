use Rattle.std.proofs.Common.{arith}
use Rattle.ap_answers.proofs.LocalLemmas.{free_next}
use Rattle.ap_answers.proofs.locals.free_names.Goals as goal

pub loop-i-preserved : goal.loop-i-preserved
loop-i-preserved c = record {
  all = free_next c.args.locals.now c.index-locals-i.result c.loop-i.i c.loop-i.names.keys c.add_free.new.names.keys _ (omega arith) c.index-locals-i.is c.loop-i.invariant.all c.in_ok-add_free.ensures.names;
  below = c.in_ok-add_free.ensures.below;
}
