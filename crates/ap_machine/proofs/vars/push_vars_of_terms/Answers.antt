use Rattle.std.proofs.Common.{◌<◌, ◌^◌, length, ◌∙◌, arith}
use Rattle.ap_machine.proofs.VarLemmas.{fits_step, pushed_step}
use Rattle.ap_machine.proofs.vars.push_vars_of_terms.Goals as goal

pub reading-preserved : goal.reading-preserved
reading-preserved c =
    let h : c.reading.t-index < length c.args.terms.now = omega arith in
    record {
      so_far =
          pushed_step c.args.base c.args.terms.now c.reading.t-index c.t-item.result c.reading.vars.items c.push_vars_of.new.vars.items h c.t-item.is c.in_ok-push_vars_of.ensures
          ∙ c.reading.invariant.so_far;
      fits = (fits_step c.args.base (2 ^ 64) c.args.terms.now c.reading.t-index c.t-item.result h c.t-item.is c.reading.invariant.fits).1;
    }
