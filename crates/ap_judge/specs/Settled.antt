-- Names that two permutations take to names with one meaning within pairs of binders, or that are known to be fresh for a variable.
use Rattle.std.specs.Prelude.{Bool, true, ◌&&◌, ◌||◌, List, [], ◌∷◌}
use Rattle.ap_defs.specs.declared.terms.Name.{Name}
use Rattle.ap_defs.specs.declared.terms.Swap.{Swap}
use Rattle.ap_defs.specs.declared.terms.Var.{Var}
use Rattle.ap_defs.specs.Freshness.{Conds, has_cond}
use Rattle.ap_defs.specs.Permutations.{act_name, inverse, left_name, right_name}
use Rattle.ap_judge.specs.Binders.{mean_same}

module _ (ds : Conds) (ss p q : List Swap) (x : Var) where
  abbrev pub is_settled : Name → Bool
  is_settled a = mean_same ss (act_name p a) (act_name q a) || has_cond (record { name = a; var = x }) ds

  -- each name of the swappings
  abbrev pub are_settled : List Swap → Bool
  are_settled [] = true
  are_settled (s ∷ of) = (is_settled (left_name s) && is_settled (right_name s)) && are_settled of

  -- each name of which a permutation makes one that is bound
  abbrev pub are_bound_settled : List Swap → Bool
  are_bound_settled [] = true
  are_bound_settled (s ∷ of) = (is_settled (act_name (inverse p) (left_name s)) && is_settled (act_name (inverse q) (right_name s))) && are_bound_settled of

  abbrev pub are_all_settled : Bool
  are_all_settled = (are_settled p && are_settled q) && are_bound_settled ss
