use Rattle.ap_tools.proofs.Closings.{merges_at}
use Rattle.ap_tools.proofs.deques.closing.absorb_thief.Goals as goal

pub absorb-requires-clause-rule : goal.absorb-requires-clause-rule
absorb-requires-clause-rule g c = merges_at _ _ _ _ c.requires.0.0
