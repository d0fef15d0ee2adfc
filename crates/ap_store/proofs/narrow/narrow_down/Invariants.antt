use Rattle.ap_store.specs.Founds.{bare_term}
use Rattle.ap_store.specs.Narrow.{IsNarrowed}
use Rattle.ap_store.specs.declared.narrow.Narrowed.TheVariants as results
use Rattle.ap_store.proofs.narrow.narrow_down.Given as goal

-- the term in hand, and the variable before it, have the same variables as the first term
abbrev pub invariant-narrowing : goal.invariant-narrowing
invariant-narrowing l = IsNarrowed l.store (bare_term l.fn.first) (results.Goes l.like l.b)
