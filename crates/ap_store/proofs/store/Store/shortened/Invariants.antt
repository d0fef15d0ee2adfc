use Rattle.std.proofs.Common.{◌≡◌}
use Rattle.ap_defs.specs.Renaming.{IsBelow}
use Rattle.ap_perm.specs.Closures.{closure_term}
use Rattle.ap_perm.specs.Lookups.{depth_of}
use Rattle.ap_store.specs.Views.{meaning_in, present, rank}
use Rattle.ap_store.proofs.store.Store.shortened.Given as goal

-- the closure stands for what the first one stood for
abbrev pub invariant-following : goal.invariant-following
invariant-following l = record {
  term : meaning_in l.self l.closure ≡ meaning_in l.self l.initial.closure;
  below : IsBelow (present l.self).next (closure_term l.initial.closure) → IsBelow (present l.self).next (closure_term l.closure);
}

abbrev pub decreases-following : goal.decreases-following
decreases-following l = depth_of (rank l.self) (closure_term l.closure)
