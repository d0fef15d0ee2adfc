-- What clauses see of an owner.
use Rattle.std.specs.Prelude.{◌≡◌, ℕ, ◌+◌, List, [], ◌∷◌, ◌++◌, Option, Some, None}
use Rattle.std.specs.declared.alloc.Global.{Global}
use Rattle.atomic_blocks.specs.Lent.{RowsId}
use Rattle.crossbeam_deque.specs.Handles.{worker_view, worker_deque, worker_port, worker_flavor}
use Rattle.crossbeam_deque.specs.declared.handles.Worker.{Worker}
use Rattle.ap_defs.specs.declared.paths.Path.{Path}
use Rattle.ap_tools.specs.declared.deques.rule.Fair.{Fair}
use Rattle.ap_tools.specs.Ends.{ThiefView}
use Rattle.ap_tools.specs.declared.deques.hand.Hand.{Hand}
use Rattle.ap_tools.specs.declared.deques.owner.Owner.{Owner}
use Rattle.ap_paths.specs.Weights.{weigh}
use Rattle.ap_tools.specs.Rule.{hand, PermitsEmpty}

abbrev pub Deque : Type 0
Deque = Worker Path Global Hand Fair

abbrev pub owner_deque : {W : Type 0} → Owner W → RowsId × Global
owner_deque o = worker_deque o.deque

abbrev pub owner_view : {W : Type 0} → Owner W → Hand
owner_view o = worker_view o.deque

abbrev pub PushedOne : Hand → List ℕ → Hand → Type 0
PushedOne v p w = w ≡ hand v.parts (v.pushed ++ p ∷ []) v.popped v.stolen

abbrev pub PoppedOne : Hand → Option (List ℕ) → Hand → Type 0
PoppedOne v None w = (w ≡ v) × PermitsEmpty v
PoppedOne v (Some p) w = w ≡ hand v.parts v.pushed (v.popped ++ p ∷ []) v.stolen

abbrev pub parts_of_thieves : List ThiefView → ℕ
parts_of_thieves [] = 0
parts_of_thieves (t ∷ ts) = t.parts + parts_of_thieves ts

abbrev pub stolen_of : (List ℕ → ℕ) → List ThiefView → ℕ
stolen_of h [] = 0
stolen_of h (t ∷ ts) = weigh h t.stolen + stolen_of h ts

abbrev pub AreThievesOf : RowsId × Global → List ThiefView → Type 0
AreThievesOf deque [] = Unit {0}
AreThievesOf deque (t ∷ ts) = (t.deque ≡ deque) × AreThievesOf deque ts

-- what stays of an owner: its port, and that it pops what it pushed last
abbrev pub IsLifoOwner : Deque → Type 0
IsLifoOwner w = (worker_port w ≡ 0) × (worker_flavor w ≡ 1)
