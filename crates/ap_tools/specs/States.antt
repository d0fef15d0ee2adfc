-- The state of all workers between two events: a hand and a deque for each, and what is over.
use Rattle.std.specs.Prelude.{ℕ, zero, suc, List, [], ◌∷◌, ◌++◌, slice_set}
use Rattle.ap_paths.specs.Merging.{EndedPath}

-- the paths that have ended, with their outputs, in path order, and those that were left out
pub record Past : Type 0 where
  pub ends : List EndedPath
  pub skipped : List (List ℕ)

abbrev pub over : List EndedPath → List (List ℕ) → Past
over ends skipped = record { ends = ends; skipped = skipped }

pub record WorkersState : Type 0 where
  pub hands : List (List (List ℕ))
  pub deques : List (List (List ℕ))
  pub past : Past

abbrev pub state : List (List (List ℕ)) → List (List (List ℕ)) → Past → WorkersState
state hands deques past = record { hands = hands; deques = deques; past = past }

abbrev pub joined_all : List (List (List ℕ)) → List (List ℕ)
joined_all [] = []
joined_all (l ∷ ls) = l ++ joined_all ls

-- the paths in hands, then those in deques
abbrev pub pending : WorkersState → List (List ℕ)
pending s = joined_all s.hands ++ joined_all s.deques

-- n empty lists
abbrev pub nones : ℕ → List (List (List ℕ))
nones zero = []
nones (suc n) = [] ∷ nones n

-- at the start worker 0 has the empty path in its hand
abbrev pub start_state : ℕ → WorkersState
start_state n = state (slice_set (nones n) 0 ([] ∷ [])) (nones n) (over [] [])
