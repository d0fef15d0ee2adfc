-- The map in which ends are put in order: a key is a path and a number, which tells apart ends of one path.
use Rattle.std.specs.Prelude.{ℕ, ◌<◌, List, [], ◌∷◌, Vec}
use Rattle.ap_paths.specs.declared.runs.Run.{Run}
use Rattle.ap_paths.specs.Runs.{outs_of_runs}
use Rattle.ap_paths.specs.Merging.{EndedPath}

-- the paths and what stands beside them
abbrev pub ends_in : {Z X : Type 0} → List ((Vec ℕ Z × ℕ) × X) → List (List ℕ × X)
ends_in [] = []
ends_in (e ∷ es) = (e.0.0.items, e.1) ∷ ends_in es

-- all numbers are below n
abbrev pub AreNumbersBelow : {Z X : Type 0} → ℕ → List ((Vec ℕ Z × ℕ) × X) → Type 0
AreNumbersBelow n [] = Unit {0}
AreNumbersBelow n (e ∷ es) = (e.0.1 < n) × AreNumbersBelow n es

-- ends, with their outputs without where they lie in memory
abbrev pub ends_of : List (List ℕ × List Run) → List EndedPath
ends_of [] = []
ends_of (e ∷ es) = (e.0, outs_of_runs e.1) ∷ ends_of es
