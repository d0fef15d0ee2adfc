use Rattle.crossbeam_deque.specs.Handles.{worker_view}
use Rattle.ap_tools.proofs.Moves.{pops}
use Rattle.ap_tools.proofs.deques.owner.Owner.pop.Goals as goal

pub pop_as-found-requires-clause-lifo : goal.pop_as-found-requires-clause-lifo
pop_as-found-requires-clause-lifo g c _ = let o = c.args.self.now in rw o.is_first.0 (pops (worker_view o.deque))
