-- What a search can go back to, and what it finds there.
use Rattle.std.specs.Prelude.{ℕ, ◌+◌, ◌<◌, ◌≤◌, List, [], ◌∷◌, length, take}
use Rattle.ap_defs.specs.Resolution.{State}
use Rattle.ap_defs.specs.Types.{NominalKind}
use Rattle.ap_store.specs.Triples.{Triple}
use Rattle.ap_machine.specs.Brought.{vars_of_brought}
use Rattle.ap_machine.specs.GoalStacks.{IsLonger, waiting_at}
use Rattle.ap_machine.specs.Positions.{Position}
use Rattle.ap_machine.specs.declared.brought.Brought.{Brought}
use Rattle.ap_machine.specs.declared.frames.Cell.{Cell}
use Rattle.ap_machine.specs.declared.saves.Save.{Save}

-- The versions of the store, the present one last, and the kinds of its numbers; the goals in the goal_stack; the path; and the ranges
-- of variables that clauses and `exists` brought.
pub record Track : Type 0 where
  pub versions : List Triple
  pub kinds : List NominalKind
  pub cells : List Cell
  pub path : List ℕ
  pub brought : List Brought

abbrev pub last_after : Triple → List Triple → Triple
last_after v [] = v
last_after v (w ∷ vs) = last_after w vs

abbrev pub last_version : List Triple → Triple
last_version vs = last_after (record { bindings = []; conditions = []; next = 0 }) vs

abbrev pub next_in : Track → ℕ
next_in t = (last_version t.versions).next

abbrev pub state_at : Track → State
state_at t = record { bindings = (last_version t.versions).bindings; conditions = (last_version t.versions).conditions; kinds = t.kinds }

-- where the search stands with the goals from a number on
abbrev pub position_at : Track → ℕ → Position
position_at t n = record { waiting = waiting_at t.cells n; path = t.path; state = state_at t; brought = vars_of_brought t.brought }

-- what is left once the search has gone back
abbrev pub back_to : Save → Track → Track
back_to s t = record {
  versions = take (s.mark.place + 1) t.versions;
  kinds = take (last_version (take (s.mark.place + 1) t.versions)).next t.kinds;
  cells = take s.cells t.cells;
  path = take s.path t.path;
  brought = take s.brought t.brought;
}

-- the search had come that far
pub record IsSaveWithin (s : Save) (t : Track) : Type 0 where
  pub mark : s.mark.place < length t.versions
  pub kinds : (last_version (take (s.mark.place + 1) t.versions)).next ≤ length t.kinds
  pub cells : s.cells ≤ length t.cells
  pub first : s.first ≤ s.cells
  pub path : s.path ≤ length t.path
  pub brought : s.brought ≤ length t.brought

-- the second track goes on from the first
pub record GoesFrom (t u : Track) : Type 0 where
  pub versions : IsLonger t.versions u.versions
  pub kinds : IsLonger t.kinds u.kinds
  pub cells : IsLonger t.cells u.cells
  pub path : IsLonger t.path u.path
  pub brought : IsLonger t.brought u.brought
