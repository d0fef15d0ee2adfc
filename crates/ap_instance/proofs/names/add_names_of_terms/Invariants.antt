-- The names of the terms that are left, beside those so far, are all.
use Rattle.std.proofs.Common.{◌≡◌, length, map}
use Rattle.ap_answers.specs.Occurring.{more_names}
use Rattle.ap_defs.specs.Occurrences.{names_of_terms}
use Rattle.ap_defs.specs.Terms.{term_of}
use Rattle.ap_instance.proofs.names.add_names_of_terms.Given as goal

abbrev pub invariant-adding : goal.invariant-adding
invariant-adding l = more_names l.names.keys (names_of_terms (map term_of l.rest)) ≡ more_names l.fn.names.keys (names_of_terms (map term_of l.fn.terms))

abbrev pub decreases-adding : goal.decreases-adding
decreases-adding l = length l.rest
