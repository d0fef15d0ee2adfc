-- What is written so far, and what is left, are all.
use Rattle.std.proofs.Common.{◌≡◌, ◌++◌, drop}
use Rattle.ap_steps.specs.Latex.{latex_side_texts}
use Rattle.ap_steps.proofs.latex.write_sides.Given as goal

abbrev pub invariant-loop-side : goal.invariant-loop-side
invariant-loop-side l = l.out.items ++ latex_side_texts (drop l.side-index l.sides) ≡ l.fn.out.items ++ latex_side_texts l.sides
