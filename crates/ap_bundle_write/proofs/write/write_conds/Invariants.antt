-- What is written so far, and what is left, are all.
use Rattle.std.proofs.Common.{◌≡◌, ◌++◌, drop, flat_map}
use Rattle.ap_bundle.specs.Written.{cond_line}
use Rattle.ap_bundle_write.proofs.write.write_conds.Given as goal

abbrev pub invariant-loop-cond : goal.invariant-loop-cond
invariant-loop-cond l = l.out.items ++ flat_map cond_line (drop l.cond-index l.conds) ≡ l.fn.out.items ++ flat_map cond_line l.conds
