-- Renaming: each number of a name or a variable becomes n higher; and replacement of names.
use Rattle.std.specs.Prelude.{ℕ, suc, ◌+◌, ◌<◌, Bool, false, List, [], ◌∷◌, map}
use Rattle.ap_defs.specs.declared.terms.Name.{Name}
use Rattle.ap_defs.specs.declared.terms.Swap.{Swap}
use Rattle.ap_defs.specs.declared.terms.Var.{Var}
use Rattle.ap_defs.specs.Permutations.{act_name}
use Rattle.ap_defs.specs.Substitution.{Binding, ◌:=◌}
use Rattle.ap_defs.specs.Terms.{NominalTerm, unit, name, pair, app, abs, susp}
use Rattle.ap_defs.specs.Types as types
use Rattle.ap_defs.specs.Types.{NominalKind, NominalLocal}
use Rattle.ap_defs.specs.Goals.{NominalGoal, succeed, atom, equal, fresh, both, either, exists, new}

abbrev pub rename_name : ℕ → Name → Name
rename_name n a = record { sort = a.sort; num = n + a.num }

abbrev pub rename_var : ℕ → Var → Var
rename_var n x = record { num = n + x.num }

abbrev pub rename_swap : ℕ → Swap → Swap
rename_swap n s = record { sort = s.sort; left = n + s.left; right = n + s.right }

abbrev pub rename_term : ℕ → NominalTerm → NominalTerm
rename_term n unit = unit
rename_term n (name a) = name (rename_name n a)
rename_term n (pair t u) = pair (rename_term n t) (rename_term n u)
rename_term n (app f t) = app f (rename_term n t)
rename_term n (abs a t) = abs (rename_name n a) (rename_term n t)
rename_term n (susp p x) = susp (map (rename_swap n) p) (rename_var n x)

abbrev pub rename_goal : ℕ → NominalGoal → NominalGoal
rename_goal n succeed = succeed
rename_goal n (atom p ts) = atom p (map (rename_term n) ts)
rename_goal n (equal t u) = equal (rename_term n t) (rename_term n u)
rename_goal n (fresh t u) = fresh (rename_term n t) (rename_term n u)
rename_goal n (both g h) = both (rename_goal n g) (rename_goal n h)
rename_goal n (either g h) = either (rename_goal n g) (rename_goal n h)
rename_goal n (exists x g) = exists (rename_var n x) (rename_goal n g)
rename_goal n (new a g) = new (rename_name n a) (rename_goal n g)

abbrev pub name_unless : Bool → NominalKind → ℕ → List Name → List Name
name_unless false (types.name s) n as' = record { sort = s; num = n } ∷ as'
name_unless _ _ n as' = as'

-- the free names of an item whose identifiers are numbered from n on: those that are not marked as bound
abbrev pub local_names : ℕ → List NominalLocal → List Name
local_names n [] = []
local_names n (l ∷ ls) = name_unless l.bound l.kind n (local_names (suc n) ls)

abbrev pub var_unless : Bool → NominalKind → ℕ → List Var → List Var
var_unless false (types.var t) n xs = record { num = n } ∷ xs
var_unless _ _ n xs = xs

-- the free variables of an item whose identifiers are numbered from n on
abbrev pub local_vars : ℕ → List NominalLocal → List Var
local_vars n [] = []
local_vars n (l ∷ ls) = var_unless l.bound l.kind n (local_vars (suc n) ls)

-- each name is replaced by its image under a permutation, in the lists of suspensions too
abbrev pub replace_swap : List Swap → Swap → Swap
replace_swap p s = record {
  sort = s.sort;
  left = (act_name p (record { sort = s.sort; num = s.left })).num;
  right = (act_name p (record { sort = s.sort; num = s.right })).num;
}

abbrev pub replace_names : List Swap → NominalTerm → NominalTerm
replace_names p unit = unit
replace_names p (name a) = name (act_name p a)
replace_names p (pair t u) = pair (replace_names p t) (replace_names p u)
replace_names p (app f t) = app f (replace_names p t)
replace_names p (abs a t) = abs (act_name p a) (replace_names p t)
replace_names p (susp q x) = susp (map (replace_swap p) q) x

-- every number of a name or a variable is below n
abbrev pub AreSwapsBelow : ℕ → List Swap → Type 0
AreSwapsBelow n [] = Unit {0}
AreSwapsBelow n (s ∷ p) = (s.left < n) × (s.right < n) × AreSwapsBelow n p

abbrev pub IsBelow : ℕ → NominalTerm → Type 0
IsBelow n unit = Unit {0}
IsBelow n (name a) = a.num < n
IsBelow n (pair t u) = IsBelow n t × IsBelow n u
IsBelow n (app f t) = IsBelow n t
IsBelow n (abs a t) = (a.num < n) × IsBelow n t
IsBelow n (susp p x) = AreSwapsBelow n p × (x.num < n)

abbrev pub AreBelow : ℕ → List NominalTerm → Type 0
AreBelow n [] = Unit {0}
AreBelow n (t ∷ ts) = IsBelow n t × AreBelow n ts

abbrev pub AreBindingsBelow : ℕ → List Binding → Type 0
AreBindingsBelow n [] = Unit {0}
AreBindingsBelow n ((x := t) ∷ bs) = ((x.num < n) × IsBelow n t) × AreBindingsBelow n bs

abbrev pub IsGoalBelow : ℕ → NominalGoal → Type 0
IsGoalBelow n succeed = Unit {0}
IsGoalBelow n (atom p ts) = AreBelow n ts
IsGoalBelow n (equal t u) = IsBelow n t × IsBelow n u
IsGoalBelow n (fresh t u) = IsBelow n t × IsBelow n u
IsGoalBelow n (both g h) = IsGoalBelow n g × IsGoalBelow n h
IsGoalBelow n (either g h) = IsGoalBelow n g × IsGoalBelow n h
IsGoalBelow n (exists x g) = (x.num < n) × IsGoalBelow n g
IsGoalBelow n (new a g) = (a.num < n) × IsGoalBelow n g
