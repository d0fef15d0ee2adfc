-- With what is given at the obligations that are left what was so far is all.
use Rattle.std.proofs.Common.{◌≡◌, ◌++◌}
use Rattle.ap_defs.specs.Derivations.{derivation_of}
use Rattle.ap_defs.specs.Goals.{goal_of, program_of}
use Rattle.ap_defs.specs.Types.{locals_of}
use Rattle.ap_spelling.specs.Spelt.{givens_of}
use Rattle.ap_steps.specs.Givens.{givens}
use Rattle.ap_steps.specs.Obligations.{givens_left, obligation_nodes}
use Rattle.ap_steps.proofs.givens.givens_in.Given as goal

abbrev pub invariant-obligations : goal.invariant-obligations
invariant-obligations l =
    givens_of l.given.items ++ givens_left (program_of l.program).clauses l.waiting.items
    ≡ givens (program_of l.program).clauses (locals_of l.locals) (derivation_of l.derivation) (goal_of l.goal)

abbrev pub decreases-obligations : goal.decreases-obligations
decreases-obligations l = obligation_nodes l.waiting.items
