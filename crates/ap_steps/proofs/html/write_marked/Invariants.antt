-- What is written so far, and what is left by the marks that are left, are all.
use Rattle.std.proofs.Common.{◌≡◌, ◌++◌, length}
use Rattle.ap_steps.specs.Html.{marked_text}
use Rattle.ap_steps.proofs.html.write_marked.Given as goal

abbrev pub invariant-marks : goal.invariant-marks
invariant-marks l = l.out.items ++ marked_text l.rest l.left ≡ l.fn.out.items ++ marked_text l.fn.text l.fn.marks

abbrev pub decreases-marks : goal.decreases-marks
decreases-marks l = length l.left
