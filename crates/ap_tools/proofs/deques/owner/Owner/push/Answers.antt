use Rattle.std.proofs.Common.{[], ◌∷◌}
use Rattle.crossbeam_deque.specs.Handles.{worker_view}
use Rattle.ap_tools.proofs.Moves.{pushes}
use Rattle.ap_tools.proofs.deques.owner.Owner.push.Goals as goal

pub push_as-requires-clause-pushes : goal.push_as-requires-clause-pushes
push_as-requires-clause-pushes g c = let o = c.args.self.now in rw o.is_first.0 (pushes (worker_view o.deque) (c.args.path ∷ []))
