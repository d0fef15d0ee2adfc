-- What is written so far, and what is left, are all.
use Rattle.std.proofs.Common.{◌≡◌, ◌++◌, drop}
use Rattle.ap_steps.specs.Plain.{side_texts}
use Rattle.ap_steps.proofs.plain.write_sides.Given as goal

abbrev pub invariant-loop-side : goal.invariant-loop-side
invariant-loop-side l = l.out.items ++ side_texts (drop l.side-index l.sides) ≡ l.fn.out.items ++ side_texts l.sides
