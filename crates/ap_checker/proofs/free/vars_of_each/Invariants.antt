use Rattle.std.proofs.Common.{◌≡◌, ◌++◌, drop, map}
use Rattle.ap_defs.specs.Occurrences.{vars_of_terms}
use Rattle.ap_defs.specs.Terms.{term_of}
use Rattle.ap_checker.proofs.free.vars_of_each.Given as goal

abbrev pub invariant-loop-t : goal.invariant-loop-t
invariant-loop-t l = l.vars.items ++ vars_of_terms (map term_of (drop l.t-index l.terms)) ≡ vars_of_terms (map term_of l.terms)
