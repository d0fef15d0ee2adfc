-- The last of what stands left of a goal is innermost.
use Rattle.std.proofs.Common.{◌≡◌, List, [], ◌∷◌, ◌++◌, refl, ap}
use Rattle.ap_defs.specs.Goals.{NominalGoal}
use Rattle.ap_restrict.specs.declared.owned_goals.Front.{Front}
use Rattle.ap_restrict.specs.OwnedGoals.{in_front, within_fronts}

pub front_last : (all : List Front) (f : Front) (g : NominalGoal) → within_fronts (all ++ f ∷ []) g ≡ within_fronts all (in_front f g)
front_last [] f g = refl
front_last (b ∷ all) f g = ap (in_front b) (front_last all f g)
