use Rattle.std.proofs.Common.{◌≡◌, vec_len}
use Rattle.ap_tools.specs.Hands.{AreFreshTools}
use Rattle.ap_steal.proofs.jobs.give_all.Given as goal

abbrev pub invariant-loop-thief : goal.invariant-loop-thief
invariant-loop-thief g l = (vec_len l.all ≡ vec_len l.initial.all) × AreFreshTools 0 l.all.items

abbrev pub decreases-loop-thief : goal.decreases-loop-thief
decreases-loop-thief g l = vec_len l.thieves
