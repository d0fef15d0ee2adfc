-- What is written so far, and the bytes that are left, are all.
use Rattle.std.proofs.Common.{◌≡◌, ◌++◌, drop}
use Rattle.ap_steps.specs.Escapes.{html_escaped}
use Rattle.ap_steps.proofs.escapes.write_html.Given as goal

abbrev pub invariant-loop-byte : goal.invariant-loop-byte
invariant-loop-byte l = l.out.items ++ html_escaped (drop l.byte-index l.text) ≡ l.fn.out.items ++ html_escaped l.text
