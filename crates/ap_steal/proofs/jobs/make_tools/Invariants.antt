use Rattle.std.proofs.Common.{◌≡◌, vec_len}
use Rattle.ap_tools.specs.Hands.{AreFreshTools}
use Rattle.ap_steal.proofs.jobs.make_tools.Given as goal

abbrev pub invariant-loop-number : goal.invariant-loop-number
invariant-loop-number g l = (vec_len l.all ≡ l.number) × AreFreshTools 0 l.all.items
