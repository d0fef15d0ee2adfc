-- Premises whose steps are yet to come, the next one last.
use Rattle.std.specs.Prelude.{ℕ, ◌+◌, List, [], ◌∷◌, ◌++◌}
use Rattle.ap_defs.specs.Derivations as nodes
use Rattle.ap_defs.specs.Derivations.{NominalDerivation, derivation_of}
use Rattle.ap_defs.specs.Goals.{clauses_of}
use Rattle.ap_defs.specs.GroundProofs.{clause_at}
use Rattle.ap_checks.specs.Checks.{node_count}
use Rattle.ap_steps.specs.declared.walk.Waiting.{Waiting}
use Rattle.ap_steps.specs.Steps.{NominalPremise, NominalStep, DerivationWriting, steps_by_clause, clause_steps}
use Rattle.ap_steps.specs.Writers.{premise_of}

-- the steps of a premise at a depth, by its derivation
abbrev pub atom_steps : DerivationWriting → ℕ → ℕ → List ℕ → NominalDerivation → List NominalStep
atom_steps w n q judgement (nodes.atom k names ts d) = steps_by_clause (clause_at (clauses_of w.clauses q) k) (clause_steps w n judgement k names ts d)
atom_steps w n q judgement _ = []

abbrev pub premise_steps : DerivationWriting → ℕ → NominalPremise → List NominalStep
premise_steps w n p = atom_steps w n p.pred p.judgement p.derivation

abbrev pub premises_steps : DerivationWriting → ℕ → List NominalPremise → List NominalStep
premises_steps w n [] = []
premises_steps w n (p ∷ ps) = premise_steps w n p ++ premises_steps w n ps

abbrev pub steps_of_waiting : DerivationWriting → Waiting → List NominalStep
steps_of_waiting w x = premise_steps w x.depth (premise_of x.premise)

-- the steps of all that wait, those of the last one first
abbrev pub steps_left : DerivationWriting → List Waiting → List NominalStep
steps_left w [] = []
steps_left w (x ∷ xs) = steps_left w xs ++ steps_of_waiting w x

-- how many nodes there are in premises, and in all that wait
abbrev pub premise_nodes : List NominalPremise → ℕ
premise_nodes [] = 0
premise_nodes (p ∷ ps) = node_count p.derivation + premise_nodes ps

abbrev pub waiting_nodes : List Waiting → ℕ
waiting_nodes [] = 0
waiting_nodes (x ∷ xs) = node_count (derivation_of x.premise.derivation.now) + waiting_nodes xs
