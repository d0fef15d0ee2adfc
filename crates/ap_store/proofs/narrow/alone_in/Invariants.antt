use Rattle.ap_defs.specs.Renaming.{IsBelow, rename_term}
use Rattle.ap_defs.specs.Substitution.{under}
use Rattle.ap_defs.specs.Terms.{NominalTerm, pair, term_of}
use Rattle.ap_defs.specs.Unification.{size}
use Rattle.ap_store.specs.Founds.{bare_term}
use Rattle.ap_store.specs.Likes.{HaveSameVars}
use Rattle.ap_store.specs.Narrow.{IsAlone}
use Rattle.ap_store.specs.Views.{bindings_of}
use Rattle.ap_store.proofs.narrow.alone_in.Given as goal

-- a term before the one in hand has the variables that are left so far, and both have those of the whole
abbrev pub invariant-scanning : goal.invariant-scanning
invariant-scanning l = record {
  same : (before : NominalTerm) × IsAlone (bindings_of l.store) before l.so_far × HaveSameVars (under (bindings_of l.store) (pair before (rename_term l.base (term_of l.rest)))) (under (bindings_of l.store) (bare_term l.fn.b));
  below : IsBelow l.end (rename_term l.base (term_of l.rest));
}

abbrev pub decreases-scanning : goal.decreases-scanning
decreases-scanning l = size (term_of l.rest)
