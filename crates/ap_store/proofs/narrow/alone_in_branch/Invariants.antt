use Rattle.ap_defs.specs.Renaming.{IsBelow, rename_term}
use Rattle.ap_defs.specs.Substitution.{under}
use Rattle.ap_defs.specs.Terms.{term_of}
use Rattle.ap_defs.specs.Unification.{size}
use Rattle.ap_store.specs.Founds.{bare_term}
use Rattle.ap_store.specs.Likes.{HaveSameVars}
use Rattle.ap_store.specs.Views.{bindings_of}
use Rattle.ap_store.proofs.narrow.alone_in_branch.Given as goal

-- the term in hand has the same variables as the whole
abbrev pub invariant-descending : goal.invariant-descending
invariant-descending l = record {
  same : HaveSameVars (under (bindings_of l.store) (bare_term l.fn.b)) (under (bindings_of l.store) (rename_term l.base (term_of l.rest)));
  below : IsBelow l.fn.b.end (rename_term l.base (term_of l.rest));
}

abbrev pub decreases-descending : goal.decreases-descending
decreases-descending l = size (term_of l.rest)
