-- With those that are left the ones so far are all.
use Rattle.std.proofs.Common.{◌≡◌, ◌++◌, length}
use Rattle.ap_spelling.specs.Spelt.{givens_of}
use Rattle.ap_steps.specs.Spelling.{bare_names}
use Rattle.ap_steps.proofs.spellings.add_bare_names.Given as goal

abbrev pub invariant-names : goal.invariant-names
invariant-names l = givens_of l.given.items ++ bare_names l.rest ≡ givens_of l.fn.given.items ++ bare_names l.fn.names

abbrev pub decreases-names : goal.decreases-names
decreases-names l = length l.rest
