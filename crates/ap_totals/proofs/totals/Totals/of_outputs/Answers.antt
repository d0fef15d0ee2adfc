use Rattle.std.proofs.Common.{◌^◌, ◌∙◌, arith}
use Rattle.ap_defs.specs.Answers.{out_of}
use Rattle.ap_totals.proofs.OutLemmas.{last_out, next_out, no_more_than, one_further}
use Rattle.ap_totals.proofs.totals.Totals.of_outputs.Goals as goal

pub count-requires : goal.count-requires
count-requires c = no_more_than c.loop-out.out-index (2 ^ 64) c.loop-out.totals (omega arith) c.loop-out.invariant.few

pub loop-out-preserved : goal.loop-out-preserved
loop-out-preserved c =
    let d = c.out-item.result in
    let i = c.loop-out.out-index in
    record {
      counts =
          next_out c.args.outs.now i d c.loop-out.totals c.count.new.self c.loop-out-test.true c.out-item.is c.count.ensures
          ∙ c.loop-out.invariant.counts;
      few = rw c.count.ensures (one_further (out_of d) i c.loop-out.totals c.loop-out.invariant.few);
    }

pub returns-clause-counts : goal.returns-clause-counts
returns-clause-counts c = last_out c.args.outs.now c.loop-out.out-index c.loop-out.totals _ c.loop-out-test.false c.loop-out.invariant.counts
