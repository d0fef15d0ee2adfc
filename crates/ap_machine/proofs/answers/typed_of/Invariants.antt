use Rattle.std.proofs.Common.{◌≡◌, ◌++◌, drop, map}
use Rattle.ap_defs.specs.Answers.{typed_var_of, typed_vars}
use Rattle.ap_store.specs.Views.{kinds}
use Rattle.ap_machine.proofs.answers.typed_of.Given as goal

-- the variables so far and those of the rest are all
abbrev pub invariant-typing : goal.invariant-typing
invariant-typing l = map typed_var_of l.all.items ++ typed_vars (kinds l.store) (drop l.x-index l.vars) ≡ typed_vars (kinds l.store) l.vars
