-- Goals that wait in an goal_stack.
use Rattle.std.specs.Prelude.{◌≡◌, ℕ, suc, ◌≤◌, List, [], ◌∷◌, ◌++◌, slice_index_or as get_or}
use Rattle.ap_search.specs.Continuations.{Waiting}
use Rattle.ap_machine.specs.Views.{waiting_of}
use Rattle.ap_machine.specs.declared.frames.Cell.{Cell}
use Rattle.ap_machine.specs.declared.frames.Frame.{Frame}

-- the frame that a cell has
abbrev pub frame_of : Cell → Frame
frame_of c = record { goal = c.goal; base = c.base; depth = c.depth }

-- The goals that wait from each number on: none from 0 on, and from the number of a cell its goal, and then those from the number
-- that the cell names.
abbrev pub stacks_with : List (List Waiting) → List Cell → List (List Waiting)
stacks_with before [] = before
stacks_with before (c ∷ cs) = stacks_with (before ++ (waiting_of (frame_of c) ∷ get_or before c.next []) ∷ []) cs

abbrev pub waiting_at : List Cell → ℕ → List Waiting
waiting_at cs n = get_or (stacks_with ([] ∷ []) cs) n []

-- each cell names an earlier one or none, the first of these being the n-th
abbrev pub AreLinked : ℕ → List Cell → Type 0
AreLinked n [] = Unit {0}
AreLinked n (c ∷ cs) = (c.next ≤ n) × AreLinked (suc n) cs

-- the second list goes on from the first
abbrev pub IsLonger : {A : Type 0} → List A → List A → Type 0
IsLonger {A} xs ys = (zs : List A) × (ys ≡ xs ++ zs)
