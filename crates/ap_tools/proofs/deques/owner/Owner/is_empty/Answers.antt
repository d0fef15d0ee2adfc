use Rattle.crossbeam_deque.specs.Handles.{worker_port, worker_view}
use Rattle.ap_tools.proofs.Moves.{looks}
use Rattle.ap_tools.proofs.deques.owner.Owner.is_empty.Goals as goal

pub len_as-requires : goal.len_as-requires
len_as-requires g c = let d = c.args.self.now.deque in looks (worker_port d) (worker_view d)
