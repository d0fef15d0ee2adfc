-- What is written so far, and the trees that are left, are all.
use Rattle.std.proofs.Common.{◌≡◌, ◌++◌, length}
use Rattle.ap_steps.specs.Html.{trees}
use Rattle.ap_steps.proofs.html.write_html_steps.Given as goal

abbrev pub invariant-steps : goal.invariant-steps
invariant-steps l = l.out.items ++ trees l.levels l.rest ≡ l.fn.out.items ++ trees 0 l.fn.steps

abbrev pub decreases-steps : goal.decreases-steps
decreases-steps l = length l.rest
