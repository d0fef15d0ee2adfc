use Rattle.std.proofs.Common.{rules, arith}
use Rattle.ap_defs.specs.Goals.{program_of}
use Rattle.ap_text_commands.specs.WorkReports.{work_depth}
use Rattle.ap_text_commands.proofs.SumLemmas.{at_most_more, more_room, one_more}
use Rattle.ap_text_commands.proofs.working.program.program_totals.Goals as goal

pub with-totals-requires : goal.with-totals-requires
with-totals-requires g c = more_room c.loop-place.place c.loop-place.totals c.in_ok-more.more (omega arith) c.loop-place.invariant.few c.in_ok-more.ensures.few

pub loop-place-preserved : goal.loop-place-preserved
loop-place-preserved g c =
    let p = program_of c.args.program.now in
    let place = c.loop-place.place in
    record {
      sums = one_more p work_depth place c.loop-place.totals c.in_ok-more.more c.with-totals.result (search rules) c.in_ok-more.ensures.made c.with-totals.ensures c.loop-place.invariant.sums;
      few = at_most_more place c.loop-place.totals c.in_ok-more.more c.with-totals.result c.with-totals.ensures c.loop-place.invariant.few c.in_ok-more.ensures.few;
    }
