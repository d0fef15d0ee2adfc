use Rattle.std.proofs.Common.{◌≡◌, vec_len}
use Rattle.ap_tools.specs.Hands.{AreFreshTools}
use Rattle.ap_steal.proofs.jobs.give.Given as goal

abbrev pub invariant-loop-i : goal.invariant-loop-i
invariant-loop-i g l = (vec_len l.all ≡ vec_len l.initial.all) × AreFreshTools 0 l.all.items
