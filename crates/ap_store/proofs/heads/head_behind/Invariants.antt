use Rattle.std.proofs.Common.{[]}
use Rattle.ap_defs.specs.Substitution.{under}
use Rattle.ap_defs.specs.Terms.{susp}
use Rattle.ap_store.specs.Likes.{AreAlike}
use Rattle.ap_store.specs.Views.{bindings_of, rank}
use Rattle.ap_store.proofs.heads.head_behind.Given as goal

-- the variable in hand stands for a term like that of the first one
abbrev pub invariant-following : goal.invariant-following
invariant-following l = AreAlike (under (bindings_of l.store) (susp [] l.fn.x)) (under (bindings_of l.store) (susp [] l.y))

abbrev pub decreases-following : goal.decreases-following
decreases-following l = rank l.store l.y
