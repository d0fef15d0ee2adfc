-- The beginnings of swappings round a text.
use Rattle.std.specs.Prelude.{ℕ, List, [], ◌∷◌, ◌++◌, codes}
use Rattle.ap_defs.specs.declared.terms.Name.{Name}
use Rattle.ap_defs.specs.declared.terms.Swap.{Swap}
use Rattle.ap_defs.specs.Permutations.{left_name, right_name}

-- the beginning of each swapping
abbrev pub heads_text : (Name → List ℕ) → List Swap → List ℕ
heads_text names [] = []
heads_text names (s ∷ p) = codes "swap(" ++ (names (left_name s) ++ (codes "," ++ (names (right_name s) ++ (codes "," ++ heads_text names p))))
