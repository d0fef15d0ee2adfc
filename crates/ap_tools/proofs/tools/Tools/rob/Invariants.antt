use Rattle.std.proofs.Common.{[]}
use Rattle.ap_tools.proofs.tools.Tools.rob.Given as goal
use Rattle.ap_tools.specs.Order.{KeepsWho}
use Rattle.ap_tools.specs.Accounts.{Took}

abbrev pub invariant-loop : goal.invariant-loop
invariant-loop g l = KeepsWho l.initial.self l.self × Took l.initial.self [] l.self
