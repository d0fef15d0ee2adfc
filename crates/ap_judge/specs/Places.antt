-- The place of each identifier among the free variables before it, if it is one, and else among the free names before it.
use Rattle.std.specs.Prelude.{ℕ, suc, if◌then◌else◌, List, [], ◌∷◌, Option, Some, None}
use Rattle.ap_program.specs.FreeLocals.{free_sort, is_free_var}
use Rattle.ap_defs.specs.Types.{NominalLocal}

-- one more than this, where there is something
abbrev pub next_if : Option ℕ → ℕ → ℕ
next_if None n = n
next_if (Some s) n = suc n

-- behind so many free names and so many free variables
abbrev pub places_from : ℕ → ℕ → List NominalLocal → List ℕ
places_from n v [] = []
places_from n v (l ∷ ls) = if is_free_var l then (v ∷ places_from n (suc v) ls) else (n ∷ places_from (next_if (free_sort l) n) v ls)
