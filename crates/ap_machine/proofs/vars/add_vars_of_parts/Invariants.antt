-- The variables of the parts that are left, behind those so far, are all.
use Rattle.std.proofs.Common.{◌++◌, [], length}
use Rattle.ap_defs.specs.Terms.{term_of}
use Rattle.ap_defs.specs.Unification.{vars_then}
use Rattle.ap_defs.specs.Walks.{parts_left}
use Rattle.ap_defs.proofs.PartLemmas.{vars_of_parts}
use Rattle.ap_search.specs.Records.{SameVars}
use Rattle.ap_machine.proofs.vars.add_vars_of_parts.Given as goal

abbrev pub invariant-loop-parts : goal.invariant-loop-parts
invariant-loop-parts l = SameVars (l.vars.items ++ vars_of_parts (parts_left l.parts)) (l.fn.vars.items ++ vars_then (term_of l.fn.t) [])

abbrev pub decreases-loop-parts : goal.decreases-loop-parts
decreases-loop-parts l = length (parts_left l.parts)
