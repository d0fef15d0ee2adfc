-- What is left, within the layers, is all.
use Rattle.std.proofs.Common.{◌≡◌, length, map}
use Rattle.ap_defs.specs.Goals.{NominalGoal}
use Rattle.ap_defs.specs.Spines.{goal_within}
use Rattle.ap_defs.specs.Terms.{term_of}
use Rattle.ap_instance.specs.Equations.{with_equations}
use Rattle.ap_instance.proofs.putting.equations.Given as goal

abbrev pub invariant-adding : goal.invariant-adding
invariant-adding l = (g : NominalGoal) → goal_within l.layers.items (with_equations l.left (map term_of l.right) g) ≡ with_equations l.fn.vars (map term_of l.fn.terms) g

abbrev pub decreases-adding : goal.decreases-adding
decreases-adding l = length l.left
