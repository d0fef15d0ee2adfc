-- With those that are left the ones so far are all.
use Rattle.std.proofs.Common.{◌≡◌, ◌++◌, length}
use Rattle.ap_spelling.specs.Spelt.{givens_of}
use Rattle.ap_steps.specs.Spelling.{bare_vars}
use Rattle.ap_steps.proofs.spellings.add_bare_vars.Given as goal

abbrev pub invariant-vars : goal.invariant-vars
invariant-vars l = givens_of l.given.items ++ bare_vars l.rest ≡ givens_of l.fn.given.items ++ bare_vars l.fn.vars

abbrev pub decreases-vars : goal.decreases-vars
decreases-vars l = length l.rest
