-- With those that are left the ones so far are all.
use Rattle.std.proofs.Common.{◌≡◌, drop}
use Rattle.ap_spelling.specs.Spelt.{givens_of, spelt_of}
use Rattle.ap_spelling.specs.Words.{give_each}
use Rattle.ap_spelling.proofs.spelt.Spelt.give_each.Given as goal

abbrev pub invariant-loop-i : goal.invariant-loop-i
invariant-loop-i l = give_each l.words (givens_of (drop l.i l.givens)) (spelt_of l.self) ≡ give_each l.words (givens_of l.givens) (spelt_of l.initial.self)
