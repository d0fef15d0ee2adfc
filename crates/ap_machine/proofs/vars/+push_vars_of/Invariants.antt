-- The variables of what is left of the term, behind those so far, are all.
use Rattle.std.proofs.Common.{◌≡◌, ◌≤◌, ◌^◌, ◌++◌, []}
use Rattle.ap_defs.specs.Renaming.{IsBelow, rename_term}
use Rattle.ap_defs.specs.Terms.{term_of}
use Rattle.ap_defs.specs.Unification.{size, vars_then}
use Rattle.ap_machine.proofs.vars.+push_vars_of.Given as goal

abbrev pub decreases-push_vars_of : goal.decreases-push_vars_of
decreases-push_vars_of l = size (term_of l.t.now)

abbrev pub invariant-loop-rest : goal.invariant-loop-rest
invariant-loop-rest l = record {
  all : l.vars.items ++ vars_then (rename_term l.base (term_of l.rest)) [] ≡ l.fn.vars.items ++ vars_then (rename_term l.fn.base (term_of l.fn.t)) [];
  below : IsBelow (2 ^ 64) (rename_term l.base (term_of l.rest));
  smaller : size (term_of l.rest) ≤ size (term_of l.fn.t);
}

abbrev pub decreases-loop-rest : goal.decreases-loop-rest
decreases-loop-rest l = size (term_of l.rest)
