use Rattle.std.proofs.Common.{◌≡◌, ◌++◌, drop, map}
use Rattle.ap_defs.specs.Occurrences.{names_of_terms}
use Rattle.ap_defs.specs.Terms.{term_of}
use Rattle.ap_checker.proofs.free.names_of_each.Given as goal

abbrev pub invariant-loop-t : goal.invariant-loop-t
invariant-loop-t l = l.names.items ++ names_of_terms (map term_of (drop l.t-index l.terms)) ≡ names_of_terms (map term_of l.terms)
