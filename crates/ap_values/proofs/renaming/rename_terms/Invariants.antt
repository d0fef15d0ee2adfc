use Rattle.std.proofs.Common.{◌≡◌, ◌^◌, ◌++◌, drop, map}
use Rattle.ap_defs.specs.Renaming.{AreBelow}
use Rattle.ap_defs.specs.Renaming.{rename_term as renamed_term}
use Rattle.ap_defs.specs.Terms.{term_of}
use Rattle.ap_values.proofs.renaming.rename_terms.Given as goal

-- those so far and those to come are all of them, and what is to come fits
abbrev pub invariant-loop-t : goal.invariant-loop-t
invariant-loop-t l = record {
  told : map term_of l.renamed.items ++ map (renamed_term l.base) (map term_of (drop l.t-index l.terms)) ≡ map (renamed_term l.base) (map term_of l.terms);
  fits : AreBelow (2 ^ 64) (map (renamed_term l.base) (map term_of (drop l.t-index l.terms)));
}
