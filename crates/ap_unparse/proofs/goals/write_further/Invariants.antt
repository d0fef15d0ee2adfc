-- What is written so far, and the terms that are left, are all.
use Rattle.std.proofs.Common.{◌≡◌, ◌++◌, drop}
use Rattle.ap_trees.specs.Trees.{trees_of}
use Rattle.ap_unparse.specs.Written.{bytes_of}
use Rattle.ap_unparse.specs.WrittenGoals.{further_terms}
use Rattle.ap_unparse.proofs.goals.write_further.Given as goal

abbrev pub invariant-loop-t : goal.invariant-loop-t
invariant-loop-t l = l.out.items ++ bytes_of (further_terms (trees_of (drop l.t-index l.terms))) ≡ l.fn.out.items ++ bytes_of (further_terms (trees_of l.terms))
