-- What the workers have before anything was run, and what a worker holds.
use Rattle.std.specs.Prelude.{◌≡◌, ℕ, zero, suc, ◌+◌, false, List, [], ◌∷◌}
use Rattle.ap_paths.specs.Weights.{weigh}
use Rattle.ap_tools.specs.Rule.{hand}
use Rattle.ap_tools.specs.Owners.{owner_view}
use Rattle.ap_tools.specs.declared.tools.Tools.{Tools}

-- the first of the workers has the empty path in its hand, and the others have none
abbrev pub first_hand : ℕ → List (List ℕ)
first_hand zero = [] ∷ []
first_hand (suc n) = []

-- the tools of the worker of this number, with an empty deque
abbrev pub IsFreshTools : {W : Type 0} → ℕ → Tools W → Type 0
IsFreshTools n t = (t.number ≡ n) × (t.alone ≡ false) × (t.hand.items ≡ first_hand n) × (owner_view t.own ≡ hand 0 [] [] [])

-- of the workers from this number on
abbrev pub AreFreshTools : {W : Type 0} → ℕ → List (Tools W) → Type 0
AreFreshTools n [] = Unit {0}
AreFreshTools n (t ∷ ts) = IsFreshTools n t × AreFreshTools (suc n) ts

-- the weights of the paths in a worker's hand and of those that it has put into its deque
abbrev pub held : {W : Type 0} → (List ℕ → ℕ) → Tools W → ℕ
held h t = weigh h t.hand.items + weigh h (owner_view t.own).pushed
