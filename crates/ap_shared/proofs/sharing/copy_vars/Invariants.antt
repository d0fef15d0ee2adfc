-- The copies so far, and the variables that are left, are all.
use Rattle.std.proofs.Common.{◌≡◌, ◌++◌, drop, map}
use Rattle.ap_defs.specs.Answers.{typed_var_of}
use Rattle.ap_shared.proofs.sharing.copy_vars.Given as goal

abbrev pub invariant-loop-typed : goal.invariant-loop-typed
invariant-loop-typed l = map typed_var_of l.copied.items ++ map typed_var_of (drop l.typed-index l.vars) ≡ map typed_var_of l.vars
