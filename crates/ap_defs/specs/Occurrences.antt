-- Which names and variables stand in terms and goals, and which are free in a goal.
use Rattle.std.specs.Prelude.{if◌then◌else◌, List, [], ◌∷◌, ◌++◌}
use Rattle.ap_defs.specs.declared.terms.Name.{Name}
use Rattle.ap_defs.specs.declared.terms.Var.{Var}
use Rattle.ap_defs.specs.Permutations.{name_eq, names_of}
use Rattle.ap_defs.specs.Freshness.{var_eq}
use Rattle.ap_defs.specs.Terms.{NominalTerm, unit, name, pair, app, abs, susp}
use Rattle.ap_defs.specs.Unification.{vars_then}
use Rattle.ap_defs.specs.Goals.{NominalGoal, succeed, atom, equal, fresh, both, either, exists, new}

-- the names of a term in front of others, as they are read: binders and places of swappings too
abbrev pub names_then : NominalTerm → List Name → List Name
names_then unit as' = as'
names_then (name a) as' = a ∷ as'
names_then (pair t u) as' = names_then t (names_then u as')
names_then (app f t) as' = names_then t as'
names_then (abs a t) as' = a ∷ names_then t as'
names_then (susp p x) as' = names_of p ++ as'

abbrev pub names_of_terms : List NominalTerm → List Name
names_of_terms [] = []
names_of_terms (t ∷ ts) = names_then t (names_of_terms ts)

abbrev pub vars_of_terms : List NominalTerm → List Var
vars_of_terms [] = []
vars_of_terms (t ∷ ts) = vars_then t (vars_of_terms ts)

abbrev pub without_name : Name → List Name → List Name
without_name a [] = []
without_name a (b ∷ bs) = if name_eq a b then without_name a bs else (b ∷ without_name a bs)

abbrev pub without_var : Var → List Var → List Var
without_var x [] = []
without_var x (y ∷ ys) = if var_eq x y then without_var x ys else (y ∷ without_var x ys)

-- the names that occur in a goal and that no `new` inside it brings
abbrev pub free_names : NominalGoal → List Name
free_names succeed = []
free_names (atom p ts) = names_of_terms ts
free_names (equal t u) = names_then t (names_then u [])
free_names (fresh t u) = names_then t (names_then u [])
free_names (both g h) = free_names g ++ free_names h
free_names (either g h) = free_names g ++ free_names h
free_names (exists x g) = free_names g
free_names (new a g) = without_name a (free_names g)

-- the variables that occur in a goal and that no `exists` inside it brings
abbrev pub free_vars : NominalGoal → List Var
free_vars succeed = []
free_vars (atom p ts) = vars_of_terms ts
free_vars (equal t u) = vars_then t (vars_then u [])
free_vars (fresh t u) = vars_then t (vars_then u [])
free_vars (both g h) = free_vars g ++ free_vars h
free_vars (either g h) = free_vars g ++ free_vars h
free_vars (exists x g) = without_var x (free_vars g)
free_vars (new a g) = free_vars g

-- what stands at a part of a term itself
abbrev pub names_at : NominalTerm → List Name
names_at (name a) = a ∷ []
names_at (abs a t) = a ∷ []
names_at (susp p x) = names_of p
names_at t = []

abbrev pub vars_at : NominalTerm → List Var
vars_at (susp p x) = x ∷ []
vars_at t = []
