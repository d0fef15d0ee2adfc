-- Goals and their conclusions.
use Rattle.std.proofs.Common.{◌≡◌, ◌+◌, ℕ, false, List, [], ◌∷◌, map, refl, ap}
use Rattle.ap_defs.specs.declared.terms.Var.{Var}
use Rattle.ap_defs.specs.Goals.{NominalGoal, atom, both, either, equal, exists, fresh, new, succeed}
use Rattle.ap_defs.specs.Terms.{GroundTerm, susp}
use Rattle.ap_defs.specs.Typing.{embedded}
use Rattle.ap_property.specs.Properties.{before_conclusion, conclusion, hypothesis, is_property}
use Rattle.ap_property.specs.PutIn.{with_terms}
use Rattle.ap_instance.specs.Equations.{with_equations}

-- how many goals stand in a goal
abbrev pub goal_size : NominalGoal → ℕ
goal_size succeed = 1
goal_size (atom p ts) = 1
goal_size (equal t u) = 1
goal_size (fresh t u) = 1
goal_size (both g h) = 1 + goal_size g + goal_size h
goal_size (either g h) = 1 + goal_size g + goal_size h
goal_size (exists x g) = 1 + goal_size g
goal_size (new a g) = 1 + goal_size g

-- a goal that is no conjunction
pub own_conclusion : (g : NominalGoal) → is_property g ≡ false → conclusion g ≡ g
own_conclusion (both g h) e = cc
own_conclusion succeed e = refl
own_conclusion (atom p ts) e = refl
own_conclusion (equal t u) e = refl
own_conclusion (fresh t u) e = refl
own_conclusion (either g h) e = refl
own_conclusion (exists x g) e = refl
own_conclusion (new a g) e = refl

pub own_hypothesis : (g : NominalGoal) → is_property g ≡ false → hypothesis g ≡ g
own_hypothesis (both g h) e = cc
own_hypothesis succeed e = refl
own_hypothesis (atom p ts) e = refl
own_hypothesis (equal t u) e = refl
own_hypothesis (fresh t u) e = refl
own_hypothesis (either g h) e = refl
own_hypothesis (exists x g) e = refl
own_hypothesis (new a g) e = refl

pub before_last : (g h : NominalGoal) → is_property h ≡ false → before_conclusion g h ≡ g
before_last g (both h k) e = cc
before_last g succeed e = refl
before_last g (atom p ts) e = refl
before_last g (equal t u) e = refl
before_last g (fresh t u) e = refl
before_last g (either h k) e = refl
before_last g (exists x h) e = refl
before_last g (new a h) e = refl

-- equations with ground terms
pub equations_with : (xs : List Var) (ts : List GroundTerm) (g : NominalGoal) → with_equations xs (map embedded ts) g ≡ with_terms xs ts g
equations_with [] [] g = refl
equations_with [] (t ∷ ts) g = refl
equations_with (x ∷ xs) [] g = refl
equations_with (x ∷ xs) (t ∷ ts) g = ap (both (equal (susp [] x) (embedded t))) (equations_with xs ts g)
