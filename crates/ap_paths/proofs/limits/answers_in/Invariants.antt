use Rattle.std.proofs.Common.{◌≡◌, ◌-◌, ◌^◌, min, take}
use Rattle.ap_defs.specs.Answers.{outs_of}
use Rattle.ap_paths.specs.Limits.{found_in}
use Rattle.ap_paths.proofs.limits.answers_in.Given as goal

abbrev pub invariant-loop-out : goal.invariant-loop-out
invariant-loop-out l = l.count ≡ min (found_in (outs_of (take l.out-index l.outs))) (2 ^ 64 - 1)
