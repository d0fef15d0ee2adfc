-- What the parts that are left hold, beside what those so far do, is all.
use Rattle.std.proofs.Common.{◌≡◌, [], length}
use Rattle.ap_defs.specs.Terms.{term_of}
use Rattle.ap_defs.specs.Occurrences.{names_then}
use Rattle.ap_defs.specs.Unification.{vars_then}
use Rattle.ap_defs.specs.Walks.{parts_left}
use Rattle.ap_answers.specs.Occurring.{more_names, more_vars}
use Rattle.ap_answers.specs.VarSets.{vars_of_set}
use Rattle.ap_defs.proofs.PartLemmas.{names_of_parts, vars_of_parts}
use Rattle.ap_answers.proofs.shown.add_names_and_vars.Given as goal

abbrev pub invariant-loop-parts : goal.invariant-loop-parts
invariant-loop-parts l = record {
  names : more_names l.names.keys (names_of_parts (parts_left l.parts)) ≡ more_names l.fn.names.keys (names_then (term_of l.fn.term) []);
  vars : more_vars (vars_of_set l.vars) (vars_of_parts (parts_left l.parts)) ≡ more_vars (vars_of_set l.fn.vars) (vars_then (term_of l.fn.term) []);
}

abbrev pub decreases-loop-parts : goal.decreases-loop-parts
decreases-loop-parts l = length (parts_left l.parts)
