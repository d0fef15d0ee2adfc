use Rattle.std.proofs.Common.{◌≡◌, ◌++◌, drop, map}
use Rattle.ap_defs.specs.Answers.{typed_var_of}
use Rattle.ap_machine.proofs.answer_copies.copy_vars.Given as goal

-- the copies so far and the rest are all
abbrev pub invariant-copying : goal.invariant-copying
invariant-copying l = map typed_var_of l.copied.items ++ map typed_var_of (drop l.x-index l.vars) ≡ map typed_var_of l.vars
