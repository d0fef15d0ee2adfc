-- What is written so far, and what is left, are all.
use Rattle.std.proofs.Common.{◌≡◌, ◌++◌, drop, map, flat_map}
use Rattle.ap_defs.specs.Answers.{typed_var_of}
use Rattle.ap_bundle.specs.Written.{var_line}
use Rattle.ap_bundle_write.proofs.write.write_vars.Given as goal

abbrev pub invariant-loop-var : goal.invariant-loop-var
invariant-loop-var l = l.out.items ++ flat_map var_line (map typed_var_of (drop l.var-index l.vars)) ≡ l.fn.out.items ++ flat_map var_line (map typed_var_of l.vars)
