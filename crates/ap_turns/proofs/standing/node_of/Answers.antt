use Rattle.std.proofs.Common.{rules}
use Rattle.ap_turns.proofs.standing.node_of.Goals as goal

pub returns-in-Failed : goal.returns-in-Failed
returns-in-Failed c = search rules
