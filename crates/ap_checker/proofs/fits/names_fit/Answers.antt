use Rattle.std.proofs.Common.{◌∙◌, arith}
use Rattle.ap_judge.proofs.LocalLemmas.{sorts_end}
use Rattle.ap_checker.proofs.fits.names_fit.Goals as goal

pub returns : goal.returns
returns c = sorts_end c.args.locals.now c.loop-i.i c.args.names.now c.loop-i.place (omega arith) (omega arith) ∙ c.loop-i.invariant.same
