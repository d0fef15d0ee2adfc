use Rattle.std.proofs.Common.{◌++◌, drop, map}
use Rattle.ap_defs.specs.Occurrences.{vars_of_terms}
use Rattle.ap_defs.specs.Terms.{term_of}
use Rattle.ap_search.specs.Records.{SameVars}
use Rattle.ap_machine.proofs.vars.add_vars_of_terms.Given as goal

-- the variables so far and those of the rest are all
abbrev pub invariant-adding : goal.invariant-adding
invariant-adding l = SameVars (l.vars.items ++ vars_of_terms (map term_of (drop l.t-index l.terms))) (l.initial.vars.items ++ vars_of_terms (map term_of l.terms))
