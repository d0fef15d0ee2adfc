-- Derivations that wait on a stack, the next one last.
use Rattle.std.specs.Prelude.{ℕ, ◌+◌, List, [], ◌∷◌, ◌++◌}
use Rattle.ap_defs.specs.Derivations.{derivation_of, path, derivation_weight}
use Rattle.ap_cover.specs.declared.path.Waiting.{Waiting}

-- their paths, one after the other, the last one first
abbrev pub paths_waiting : List Waiting → List ℕ
paths_waiting [] = []
paths_waiting (w ∷ ws) = paths_waiting ws ++ path (derivation_of w.derivation.now)

-- how many nodes are left at most
abbrev pub weight_waiting : List Waiting → ℕ
weight_waiting [] = 0
weight_waiting (w ∷ ws) = derivation_weight (derivation_of w.derivation.now) + weight_waiting ws
