use Rattle.std.proofs.Common.{arith}
use Rattle.ap_shared.specs.SharedViews.{shared_proved}
use Rattle.ap_bundle.specs.Tables.{terms_of}
use Rattle.ap_bundle.specs.Written.{proved_lines}
use Rattle.ap_bundle_write.proofs.WritingLemmas.{each_on, each_ends}
use Rattle.ap_bundle_write.proofs.write.write_each.Goals as goal

pub loop-proved-preserved : goal.loop-proved-preserved
loop-proved-preserved c = record {
  table = c.in_ok-write_proved.ensures.table;
  text = each_on shared_proved terms_of proved_lines c.args.version _ _ c.args.all.now _ _ _ _ c.loop-proved.proved-index c.proved-item.result (omega arith) c.proved-item.is c.in_ok-write_proved.ensures.text c.loop-proved.invariant.text;
}

pub returns : goal.returns
returns c = record {
  table = c.loop-proved.invariant.table;
  text = each_ends shared_proved terms_of proved_lines c.args.version _ _ c.args.all.now _ _ c.loop-proved.proved-index (omega arith) c.loop-proved.invariant.text;
}
