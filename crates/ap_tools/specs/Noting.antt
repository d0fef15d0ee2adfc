-- Logs of many seats, while they are made.
use Rattle.std.specs.Prelude.{ℕ, zero, suc, List, [], ◌∷◌, ◌++◌, Vec}

abbrev pub lists_of : {Z : Type 0} → List (Vec ℕ Z) → List (List ℕ)
lists_of [] = []
lists_of (v ∷ vs) = v.items ∷ lists_of vs

-- a place goes to the end of the log of a number, if there is one
abbrev pub noted : ℕ → ℕ → List (List ℕ) → List (List ℕ)
noted n place [] = []
noted zero place (log ∷ logs) = (log ++ place ∷ []) ∷ logs
noted (suc n) place (log ∷ logs) = log ∷ noted n place logs
