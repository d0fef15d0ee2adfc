use Rattle.std.proofs.Common.{[]}
use Rattle.ap_defs.specs.Substitution.{under}
use Rattle.ap_defs.specs.Terms.{susp}
use Rattle.ap_store.specs.Likes.{HaveSameVars}
use Rattle.ap_store.specs.Views.{bindings_of}
use Rattle.ap_store.proofs.narrow.last_like.Given as goal

-- the variable in hand has the same variables as the first one
abbrev pub invariant-following : goal.invariant-following
invariant-following l = HaveSameVars (under (bindings_of l.store) (susp [] l.fn.x)) (under (bindings_of l.store) (susp [] l.y))
