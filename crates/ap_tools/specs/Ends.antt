-- What clauses see of a thief.
use Rattle.std.specs.Prelude.{◌≡◌, ℕ, ◌+◌, List, [], length}
use mathlib.Core.Option.{some}
use lib.ListN.{get_elem?}
use Rattle.std.specs.declared.alloc.Global.{Global}
use Rattle.atomic_blocks.specs.Lent.{RowsId}
use Rattle.crossbeam_deque.specs.Handles.{Pass, view, taken, IsPassOf, stealer_deque, stealer_flavor}
use Rattle.crossbeam_deque.specs.declared.handles.Stealer.{Stealer}
use Rattle.ap_defs.specs.declared.paths.Path.{Path}
use Rattle.ap_tools.specs.declared.deques.hand.Hand.{Hand}
use Rattle.ap_tools.specs.declared.deques.rule.Fair.{Fair}
use Rattle.ap_tools.specs.Rule.{thief_hand}

abbrev pub Ticket : Type 0
Ticket = Pass Path Hand Global

abbrev pub Robber : Type 0
Robber = Stealer Path Global Hand Fair

-- which deque, the parts, what was stolen, and how many paths are known to be gone
pub record ThiefView : Type 0 where
  pub deque : RowsId × Global
  pub parts : ℕ
  pub stolen : List (List ℕ)
  pub known : ℕ

abbrev pub thief_view : Robber → Ticket → List Ticket → ThiefView
thief_view s p spare = record { deque = stealer_deque s; parts = 1 + length spare; stolen = (view p).stolen; known = taken p }

-- passes of this deque with one part each, which have stolen nothing
abbrev pub AreSpare : RowsId × Global → List Ticket → Type 0
AreSpare deque passes = (k : ℕ) (p : Ticket) → get_elem? passes k ≡ some p → IsPassOf deque p × (view p ≡ thief_hand [])

abbrev pub IsThief : Robber → Ticket → List Ticket → Type 0
IsThief s p spare = (stealer_flavor s ≡ 1) × IsPassOf (stealer_deque s) p × (view p ≡ thief_hand (view p).stolen) × AreSpare (stealer_deque s) spare
