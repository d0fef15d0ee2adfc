-- What the bindings that are left hold, beside what those so far do, is all.
use Rattle.std.proofs.Common.{◌≡◌, [], zero, drop}
use Rattle.ap_defs.specs.Types.{locals_of}
use Rattle.ap_defs.specs.Renaming.{local_names}
use Rattle.ap_defs.specs.Occurrences.{names_of_terms, vars_of_terms}
use Rattle.ap_defs.specs.Printing.{first_vars}
use Rattle.ap_defs.specs.Lines.{terms_of_binds}
use Rattle.ap_answers.specs.Bindings.{binds_of}
use Rattle.ap_answers.specs.Occurring.{more_names, more_vars}
use Rattle.ap_answers.specs.VarSets.{vars_of_set}
use Rattle.ap_answers.proofs.shown.occurring_in.Given as goal

abbrev pub invariant-loop-bind : goal.invariant-loop-bind
invariant-loop-bind l = record {
  names : more_names l.names.keys (names_of_terms (terms_of_binds (binds_of (drop l.bind-index l.binds)))) ≡ more_names (local_names zero (locals_of l.locals)) (names_of_terms (terms_of_binds (binds_of l.binds)));
  vars : more_vars (vars_of_set l.vars) (vars_of_terms (terms_of_binds (binds_of (drop l.bind-index l.binds)))) ≡ first_vars [] (vars_of_terms (terms_of_binds (binds_of l.binds)));
}
