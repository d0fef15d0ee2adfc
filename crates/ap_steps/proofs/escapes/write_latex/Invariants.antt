-- What is written so far, and the bytes that are left, are all.
use Rattle.std.proofs.Common.{◌≡◌, ◌++◌, drop}
use Rattle.ap_steps.specs.Escapes.{latex_escaped}
use Rattle.ap_steps.proofs.escapes.write_latex.Given as goal

abbrev pub invariant-loop-byte : goal.invariant-loop-byte
invariant-loop-byte l = l.out.items ++ latex_escaped (drop l.byte-index l.text) ≡ l.fn.out.items ++ latex_escaped l.text
