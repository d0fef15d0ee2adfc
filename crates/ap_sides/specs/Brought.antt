-- Names and variables that are not among those which `new` and `exists` bring.
use Rattle.std.specs.Prelude.{Bool, false, ◌||◌, not, List}
use Rattle.std.specs.List.{list_all, list_any}
use Rattle.ap_defs.specs.declared.terms.Id.{Id}
use Rattle.ap_defs.specs.declared.terms.Id.TheVariants as ids
use Rattle.ap_defs.specs.declared.terms.Name.{Name}
use Rattle.ap_defs.specs.declared.terms.Var.{Var}
use Rattle.ap_defs.specs.Freshness.{Conds, fresh_under, var_eq}
use Rattle.ap_defs.specs.Permutations.{name_eq}
use Rattle.ap_checks.specs.OpenEnvironments.{OpenEnvironment}

abbrev pub is_id_of_name : Name → Id → Bool
is_id_of_name b (ids.Name a) = name_eq a b
is_id_of_name b (ids.Var x) = false

abbrev pub is_id_of_var : Var → Id → Bool
is_id_of_var y (ids.Name a) = false
is_id_of_var y (ids.Var x) = var_eq x y

-- the name stands for none of the names but those that are brought
abbrev pub are_apart : Name → OpenEnvironment → List Id → List Name → Bool
are_apart c e brought names = list_all (λ b. list_any (is_id_of_name b) brought || not (name_eq (e.names b) c)) names

-- it is fresh for what stands for each of the variables but those that are brought
abbrev pub are_fresh : Conds → Name → OpenEnvironment → List Id → List Var → Bool
are_fresh ds c e brought vars = list_all (λ x. list_any (is_id_of_var x) brought || fresh_under ds c (e.terms x)) vars
