-- With those that are left the ones so far are all.
use Rattle.std.proofs.Common.{◌≡◌, ◌++◌, drop}
use Rattle.ap_spelling.specs.Spelt.{givens_of}
use Rattle.ap_steps.proofs.spellings.add_each.Given as goal

abbrev pub invariant-loop-i : goal.invariant-loop-i
invariant-loop-i l = givens_of l.given.items ++ givens_of (drop l.i l.others) ≡ givens_of l.initial.given.items ++ givens_of l.others
