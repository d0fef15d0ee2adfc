-- What one worker does with its hand and deque.
use Rattle.std.specs.Prelude.{◌≡◌, ℕ, Bool, true, false, Option, Some, None, List, [], ◌∷◌, ◌++◌}
use Rattle.ap_play.specs.declared.workers.Worker.{Worker}

-- the last path of the hand went to the back of the deque, or the hand is empty
abbrev pub PushedAlone : Worker → Bool → Worker → Type 0
PushedAlone v true w = (rest : List (List ℕ)) × (p : List ℕ) × (v.hand.items ≡ rest ++ p ∷ []) × (w.hand.items ≡ rest) × (w.deque.items ≡ v.deque.items ++ p ∷ [])
PushedAlone v false w = v.hand.items ≡ []

-- the hand was empty and the last path of the deque came there, or that cannot be
abbrev pub PoppedAlone : Worker → Bool → Worker → Type 0
PoppedAlone v true w = (rest : List (List ℕ)) × (p : List ℕ) × (v.hand.items ≡ []) × (v.deque.items ≡ rest ++ p ∷ []) × (w.hand.items ≡ p ∷ []) × (w.deque.items ≡ rest)
PoppedAlone v false w = (rest : List (List ℕ)) (p : List ℕ) → v.hand.items ≡ [] → v.deque.items ≡ rest ++ p ∷ [] → ⊥

-- the first path of the deque went, or the deque is empty
abbrev pub Gave : Worker → Option (List ℕ) → Worker → Type 0
Gave v (Some p) w = (v.deque.items ≡ p ∷ w.deque.items) × (w.hand.items ≡ v.hand.items)
Gave v None w = v.deque.items ≡ []

-- the first path of the hand went, or the hand is empty
abbrev pub Began : Worker → Option (List ℕ) → Worker → Type 0
Began v (Some p) w = (v.hand.items ≡ p ∷ w.hand.items) × (w.deque.items ≡ v.deque.items)
Began v None w = v.hand.items ≡ []
