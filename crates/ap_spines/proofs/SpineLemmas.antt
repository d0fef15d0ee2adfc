-- The last of layers is innermost.
use Rattle.std.proofs.Common.{◌≡◌, ◌+◌, ℕ, List, [], ◌∷◌, ◌++◌, refl, ap}
use Rattle.ap_defs.specs.RawTerms as raw
use Rattle.ap_defs.specs.RawTerms.{RawTerm}
use Rattle.ap_defs.specs.Goals.{GoalOver, succeed, atom, equal, fresh, both, either, exists, new}
use Rattle.ap_spines.specs.declared.RawLayer.{RawLayer}
use Rattle.ap_spines.specs.declared.GoalLayer.{GoalLayer}
use Rattle.ap_spines.specs.Spines.{raw_in, raw_within, raw_goal_in, raw_goal_within}

pub raw_within_last : (ls : List RawLayer) (l : RawLayer) (t : RawTerm) → raw_within (ls ++ l ∷ []) t ≡ raw_within ls (raw_in l t)
raw_within_last [] l t = refl
raw_within_last (k ∷ ls) l t = ap (λ u. raw_in k u) (raw_within_last ls l t)

pub goal_within_last : (ls : List GoalLayer) (l : GoalLayer) (g : GoalOver RawTerm) → raw_goal_within (ls ++ l ∷ []) g ≡ raw_goal_within ls (raw_goal_in l g)
goal_within_last [] l g = refl
goal_within_last (k ∷ ls) l g = ap (λ h. raw_goal_in k h) (goal_within_last ls l g)

-- how many parts a term has
abbrev pub raw_size : RawTerm → ℕ
raw_size raw.unit = 1
raw_size (raw.name a) = 1
raw_size (raw.var x) = 1
raw_size (raw.pair t u) = 1 + raw_size t + raw_size u
raw_size (raw.app f t) = 1 + raw_size t
raw_size (raw.abs i t) = 1 + raw_size t
raw_size (raw.swapped i j t) = 1 + raw_size t

-- how many goals stand in a goal
abbrev pub goal_size : GoalOver RawTerm → ℕ
goal_size succeed = 1
goal_size (atom p ts) = 1
goal_size (equal t u) = 1
goal_size (fresh t u) = 1
goal_size (both g h) = 1 + goal_size g + goal_size h
goal_size (either g h) = 1 + goal_size g + goal_size h
goal_size (exists x g) = 1 + goal_size g
goal_size (new a g) = 1 + goal_size g
