-- With those that are left the ones so far are all.
use Rattle.std.proofs.Common.{◌≡◌, map, length}
use Rattle.ap_defs.specs.Occurrences.{vars_of_terms}
use Rattle.ap_defs.specs.Terms.{term_of}
use Rattle.ap_answers.specs.Occurring.{more_vars}
use Rattle.ap_steps.proofs.names.add_vars_of.Given as goal

abbrev pub invariant-terms : goal.invariant-terms
invariant-terms l = more_vars l.vars.keys (vars_of_terms (map term_of l.rest)) ≡ more_vars l.fn.vars.keys (vars_of_terms (map term_of l.fn.terms))

abbrev pub decreases-terms : goal.decreases-terms
decreases-terms l = length l.rest
