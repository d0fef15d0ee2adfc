-- Goals that wait with their derivations, the next one last.
use Rattle.std.specs.Prelude.{ℕ, ◌+◌, List, [], ◌∷◌, ◌++◌, Option, None, Some}
use Rattle.ap_defs.specs.Derivations.{NominalDerivation, derivation_weight}
use Rattle.ap_defs.specs.Goals.{Clauses, goal_of}
use Rattle.ap_shared.specs.SharedViews.{shared_derivation}
use Rattle.ap_shared.specs.declared.derivations.SharedDerivation.{SharedDerivation}
use Rattle.ap_derive.specs.declared.counting.walk.Waiting.{Waiting}
use Rattle.ap_derive.specs.Uses.{ClauseUse, uses}

-- a derivation in which each term is unit: what it uses does not depend on its terms
abbrev pub bare_derivation : SharedDerivation → NominalDerivation
bare_derivation d = shared_derivation [] d

abbrev pub uses_waiting : Clauses → Waiting → List ClauseUse
uses_waiting program w = uses program (bare_derivation w.derivation.now) (goal_of w.goal.now)

-- the uses in all of them, those of the last one first
abbrev pub uses_of_all : Clauses → List Waiting → List ClauseUse
uses_of_all program [] = []
uses_of_all program (w ∷ ws) = uses_of_all program ws ++ uses_waiting program w

-- those of what there is, if there is any
abbrev pub if_any : {A : Type 0} → Option A → (A → List ClauseUse) → List ClauseUse
if_any None uses_of = []
if_any (Some a) uses_of = uses_of a

-- how many nodes are left at most
abbrev pub weight_of_all : List Waiting → ℕ
weight_of_all [] = 0
weight_of_all (w ∷ ws) = derivation_weight (bare_derivation w.derivation.now) + weight_of_all ws
