-- The trees of the tests: two choices at each path up to a depth, and a cut at each end.
use Rattle.std.specs.Prelude.{ℕ, zero, suc, ◌-◌, Option, Some, None, List, [], ◌∷◌, ◌++◌, length}
use Rattle.ap_defs.specs.Answers.{NominalOut, cut}
use Rattle.ap_paths.specs.Entries as entries
use Rattle.ap_paths.specs.Entries.{Plan}

-- the choices left
abbrev pub left : ℕ → List ℕ → ℕ
left depth p = depth - length p

abbrev pub choices_with : ℕ → Option ℕ
choices_with zero = None
choices_with (suc n) = Some 2

-- two choices at each path of fewer entries than the depth
abbrev pub pair_choices : ℕ → List ℕ → Option ℕ
pair_choices depth p = choices_with (left depth p)

-- the cuts below a path with so many choices left
abbrev pub cuts_below : ℕ → List ℕ → List NominalOut
cuts_below zero p = cut p ∷ []
cuts_below (suc n) p = cuts_below n (p ++ 1 ∷ []) ++ (cuts_below n (p ++ 2 ∷ []) ++ [])

abbrev pub pair_at : ℕ → List ℕ → List NominalOut
pair_at depth p = cuts_below (left depth p) p

abbrev pub plan_with : ℕ → List ℕ → Plan
plan_with zero p = entries.outs (cut p ∷ [])
plan_with (suc n) p = entries.kids (1 ∷ 2 ∷ [])

abbrev pub pair_plan : ℕ → List ℕ → Plan
pair_plan depth p = plan_with (left depth p) p
