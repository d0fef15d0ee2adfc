-- The obligations of a walk over what is given, the next one last.
use Rattle.std.specs.Prelude.{ℕ, ◌+◌, List, [], ◌∷◌, ◌++◌}
use Rattle.ap_defs.specs.Derivations.{derivation_of}
use Rattle.ap_defs.specs.Goals.{Clauses, goal_of}
use Rattle.ap_defs.specs.Types.{locals_of}
use Rattle.ap_checks.specs.Checks.{node_count}
use Rattle.ap_spelling.specs.Words.{NominalGiven}
use Rattle.ap_steps.specs.declared.givens.Obligation.{Obligation}
use Rattle.ap_steps.specs.Givens.{givens}

abbrev pub givens_at : Clauses → Obligation → List NominalGiven
givens_at cs p = givens cs (locals_of p.locals.now) (derivation_of p.derivation.now) (goal_of p.goal.now)

abbrev pub givens_left : Clauses → List Obligation → List NominalGiven
givens_left cs [] = []
givens_left cs (p ∷ ps) = givens_left cs ps ++ givens_at cs p

-- how many nodes are left
abbrev pub obligation_nodes : List Obligation → ℕ
obligation_nodes [] = 0
obligation_nodes (p ∷ ps) = node_count (derivation_of p.derivation.now) + obligation_nodes ps
