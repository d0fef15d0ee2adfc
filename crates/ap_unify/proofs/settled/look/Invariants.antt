use Rattle.ap_store.specs.Views.{bindings_of}
use Rattle.ap_unify.specs.Settled.{AllSame, AreSame}
use Rattle.ap_unify.proofs.settled.look.Given as goal

-- the parts stand for one term, once the next ones do and all that wait
abbrev pub invariant-looking : goal.invariant-looking
invariant-looking l = AreSame (bindings_of l.store) l.ahead.next → AllSame (bindings_of l.store) l.waiting.items → AreSame (bindings_of l.store) l.fn.first
