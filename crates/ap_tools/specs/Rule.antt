-- The rule of a deque of paths: what was pushed is what was popped, what was stolen and what the deque holds.
use Rattle.std.specs.Prelude.{◌≡◌, ◌≢◌, ℕ, ◌+◌, ◌<◌, ◌≤◌, List, [], ◌∷◌, ◌++◌, length}
use mathlib.Core.Option.{some}
use lib.ListN.{get_elem?}
use Rattle.ap_paths.specs.Weights.{weigh}
use Rattle.ap_tools.specs.declared.deques.hand.Hand.{Hand}

abbrev pub hand : ℕ → List (List ℕ) → List (List ℕ) → List (List ℕ) → Hand
hand p a b c = record { parts = p; pushed = a; popped = b; stolen = c }

-- f of each view, added up
abbrev pub total : (Hand → ℕ) → List Hand → ℕ
total f [] = 0
total f (v ∷ vs) = f v + total f vs

-- a pass with no part has stolen nothing, and no pass but the worker's has pushed or popped
abbrev pub IsQuiet : ℕ → Hand → Type 0
IsQuiet port v = (v.parts ≡ 0 → v.stolen ≡ []) × (port ≢ 0 → (v.pushed ≡ []) × (v.popped ≡ []))

abbrev pub AreQuiet : List Hand → Type 0
AreQuiet views = (port : ℕ) (v : Hand) → get_elem? views port ≡ some v → IsQuiet port v

abbrev pub Balanced : List (List ℕ) → List Hand → Type 0
Balanced items views =
    (total (λ v. v.parts) views ≡ 1024)
    × ((h : List ℕ → ℕ) → total (λ v. weigh h v.pushed) views ≡ (total (λ v. weigh h v.popped) views + total (λ v. weigh h v.stolen) views) + weigh h items)
    × AreQuiet views

-- the rule permits a deque with these paths beside this view
abbrev pub Permits : Hand → List (List ℕ) → Type 0
Permits v items = (views : List Hand) × (port : ℕ) × (get_elem? views port ≡ some v) × Balanced items views

-- the same of the owner's view and no path
abbrev pub PermitsEmpty : Hand → Type 0
PermitsEmpty v = (views : List Hand) × (get_elem? views 0 ≡ some v) × Balanced [] views

-- the same of a path or more
abbrev pub HoldsSome : Hand → Type 0
HoldsSome v = (items : List (List ℕ)) × (0 < length items) × Permits v items

-- what a pass with one part knows that has stolen these, and has neither pushed nor popped
abbrev pub thief_hand : List (List ℕ) → Hand
thief_hand stolen = hand 1 [] [] stolen

-- at most one path, beside what a thief has stolen
abbrev pub PermitsFew : List (List ℕ) → Type 0
PermitsFew stolen = (items : List (List ℕ)) × (length items ≤ 1) × Permits (thief_hand stolen) items

abbrev pub Pushed : Hand → List (List ℕ) → Hand → Type 0
Pushed v xs w = w ≡ hand v.parts (v.pushed ++ xs) v.popped v.stolen

abbrev pub Popped : Hand → List (List ℕ) → Hand → Type 0
Popped v xs w = (w ≡ hand v.parts v.pushed (v.popped ++ xs) v.stolen) × (length w.popped ≤ length w.pushed)

abbrev pub Robbed : Hand → List (List ℕ) → Hand → Type 0
Robbed v xs w = w ≡ hand v.parts v.pushed v.popped (v.stolen ++ xs)
