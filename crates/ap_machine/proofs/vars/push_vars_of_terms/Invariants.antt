use Rattle.std.proofs.Common.{◌≡◌, ◌++◌, ◌^◌, drop, map}
use Rattle.ap_defs.specs.Occurrences.{vars_of_terms}
use Rattle.ap_defs.specs.Renaming.{AreBelow, rename_term}
use Rattle.ap_defs.specs.Terms.{term_of}
use Rattle.ap_machine.proofs.vars.push_vars_of_terms.Given as goal

-- the variables so far and those of the rest are all, and the rest fit
abbrev pub invariant-reading : goal.invariant-reading
invariant-reading l = record {
  so_far : l.vars.items ++ vars_of_terms (map (rename_term l.base) (map term_of (drop l.t-index l.terms)))
      ≡ l.initial.vars.items ++ vars_of_terms (map (rename_term l.base) (map term_of l.terms));
  fits : AreBelow (2 ^ 64) (map (rename_term l.base) (map term_of (drop l.t-index l.terms)));
}
