-- The tree of paths of a search: its outputs beside the places where it chooses.
use Rattle.std.specs.Prelude.{ℕ, ◌≤◌, List, [], ◌∷◌, ◌++◌, filter}
use Rattle.ap_defs.specs.Goals.{NominalGoal, NominalQuery, Clauses}
use Rattle.ap_defs.specs.PathOrder.{has_prefix}
use Rattle.ap_defs.specs.Resolution.{State, Outcome, Output, Telling, found, cut, stuck, chose, outcomes, calls_at, first_state}

abbrev pub path_of : Output → List ℕ
path_of (found p s d) = p
path_of (cut p) = p
path_of (stuck p) = p
path_of (chose p c) = absurd c

-- the outputs whose path has this prefix
abbrev pub outputs_at : List ℕ → List Output → List Output
outputs_at p os = filter (λ o. has_prefix p (path_of o)) os

-- A choice among so many ways, of which these are kept.
pub record Choice : Type 0 where
  pub width : ℕ
  pub kept : List ℕ

-- an outcome where choices are told
abbrev pub Mark : Type 0
Mark = Outcome Choice

abbrev pub choices_told : Telling Choice
choices_told w ks = record { width = w; kept = ks } ∷ []

-- the outputs among outcomes
abbrev pub unmarked : {C : Type 0} → List (Outcome C) → List Output
unmarked [] = []
unmarked (found p s d ∷ os) = found p s d ∷ unmarked os
unmarked (cut p ∷ os) = cut p ∷ unmarked os
unmarked (stuck p ∷ os) = stuck p ∷ unmarked os
unmarked (chose p c ∷ os) = unmarked os

-- the marks of a goal, and of a query, at a depth
abbrev pub marked_solve : Clauses → ℕ → NominalGoal → State → List Mark
marked_solve program d = outcomes choices_told (calls_at choices_told program d)

abbrev pub marked_query : Clauses → ℕ → NominalQuery → List Mark
marked_query program d q = marked_solve program d q.goal (first_state q)

-- the search has this choice at this path
pub data HasChoice : List Mark → List ℕ → Choice → Type 0 where
  here : {ms : List Mark} {p : List ℕ} {c : Choice} → HasChoice (chose p c ∷ ms) p c
  later : {m : Mark} {ms : List Mark} {p : List ℕ} {c : Choice} → HasChoice ms p c → HasChoice (m ∷ ms) p c

-- the path is the root, or a way of a choice at a path of the tree
pub data InTree (ms : List Mark) : List ℕ → Type 0 where
  root : InTree ms []
  chosen : {p : List ℕ} {c : Choice} (k : ℕ) → InTree ms p → HasChoice ms p c → 1 ≤ k → k ≤ c.width → InTree ms (p ++ k ∷ [])
