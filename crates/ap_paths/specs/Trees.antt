-- Trees of paths, and histories that are true for one.
use Rattle.std.specs.Prelude.{◌≡◌, ℕ, zero, suc, ◌+◌, ◌≤◌, ◌==◌, if◌then◌else◌, Option, Some, None, List, [], ◌∷◌, ◌++◌}
use Rattle.ap_defs.specs.Answers.{NominalOut}
use Rattle.ap_paths.specs.Entries as entries
use Rattle.ap_paths.specs.Entries.{TreeEntry, split, done, skip, stop, Plan}

-- how many choices a path has, or none where it ends without one
abbrev pub Choices : Type 0
Choices = List ℕ → Option ℕ

-- the outputs below a path
abbrev pub Outputs : Type 0
Outputs = List ℕ → List NominalOut

-- k is one of the choices
abbrev pub IsChoice : Option ℕ → ℕ → Type 0
IsChoice None k = ⊥
IsChoice (Some w) k = (1 ≤ k) × (k ≤ w)

-- the path q goes on by these choices
abbrev pub GoesOn : Choices → List ℕ → List ℕ → Type 0
GoesOn c q [] = Unit {0}
GoesOn c q (k ∷ ks) = IsChoice (c q) k × GoesOn c (q ++ k ∷ []) ks

-- the path is in the tree: each of its entries is a choice
abbrev pub InChoiceTree : Choices → List ℕ → Type 0
InChoiceTree c p = GoesOn c [] p

-- the outputs below n choices of p from i on, in order
abbrev pub joined_below : Outputs → List ℕ → ℕ → ℕ → List NominalOut
joined_below at p i zero = []
joined_below at p i (suc n) = at (p ++ i ∷ []) ++ joined_below at p (suc i) n

-- what is below a choice is what is below each of its ways, in order
abbrev pub IsTree : Choices → Outputs → Type 0
IsTree c at = (p : List ℕ) (w : ℕ) → InChoiceTree c p → c p ≡ Some w → at p ≡ joined_below at p 1 w

-- how often x stands in a list
abbrev pub times : ℕ → List ℕ → ℕ
times x [] = 0
times x (y ∷ ys) = (if y == x then 1 else 0) + times x ys

-- the numbers ascend strictly, from at least i
abbrev pub Ascends : ℕ → List ℕ → Type 0
Ascends i [] = Unit {0}
Ascends i (k ∷ ks) = (i ≤ k) × Ascends (suc k) ks

abbrev pub AreAtMost : ℕ → List ℕ → Type 0
AreAtMost w [] = Unit {0}
AreAtMost w (k ∷ ks) = (k ≤ w) × AreAtMost w ks

-- ascending choices of p, which leave out only what has no outputs
abbrev pub AreKids : Choices → Outputs → List ℕ → List ℕ → Type 0
AreKids c at p ks = (w : ℕ) × (c p ≡ Some w) × Ascends 1 ks × AreAtMost w ks × ((k : ℕ) → 1 ≤ k → k ≤ w → times k ks ≡ 0 → at (p ++ k ∷ []) ≡ [])

-- what a tree may answer at a path
abbrev pub IsPlan : Choices → Outputs → List ℕ → Plan → Type 0
IsPlan c at p (entries.kids ks) = AreKids c at p ks
IsPlan c at p (entries.outs os) = os ≡ at p

-- an entry is true for a tree
abbrev pub IsTrueOf : Choices → Outputs → TreeEntry → Type 0
IsTrueOf c at (split seat p ks) = AreKids c at p ks
IsTrueOf c at (done seat p os) = os ≡ at p
IsTrueOf c at (skip seat p n) = Unit {0}
IsTrueOf c at (stop seat) = Unit {0}

abbrev pub AreTrue : Choices → Outputs → List TreeEntry → Type 0
AreTrue c at [] = Unit {0}
AreTrue c at (e ∷ es) = IsTrueOf c at e × AreTrue c at es
